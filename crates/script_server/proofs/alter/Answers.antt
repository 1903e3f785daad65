use mathlib.Core.Path.{refl}
use Rattle.script_server.proofs.alter.Goals as goal

pub returns : goal.returns
returns c = record { alters = c.change-number.ensures c.args.server.kept; silent = refl; row = refl; kept = refl }
