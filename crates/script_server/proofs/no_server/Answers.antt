use mathlib.Core.Path.{refl}
use Rattle.script_server.specs.Lines.{no_server}
use Rattle.script_server.proofs.no_server.Goals as goal

pub returns : goal.returns
unfolding no_server
returns c = refl
