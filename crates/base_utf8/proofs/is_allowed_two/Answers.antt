use mathlib.Core.Path.{refl}
use Rattle.base_utf8.specs.Bytewise.{trails, allowed2}
use Rattle.base_utf8.proofs.is_allowed_two.Goals as goal

-- `utf8::is_allowed_two` meets its contract.
pub returns : goal.returns
unfolding trails allowed2
returns c = refl
