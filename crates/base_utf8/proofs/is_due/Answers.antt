use mathlib.Core.Path.{refl}
use Rattle.base_utf8.specs.Bytewise.{due}
use Rattle.base_utf8.proofs.is_due.Goals as goal

-- `utf8::is_due` meets its contract.
pub returns : goal.returns
unfolding due
returns c = refl
