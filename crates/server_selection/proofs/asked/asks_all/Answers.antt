use mathlib.Core.Path.{refl}
use Rattle.server_selection.specs.Asked.{unbound}
use Rattle.server_selection.proofs.asked.asks_all.Goals as goal

pub returns : goal.returns
unfolding unbound
returns c = refl
