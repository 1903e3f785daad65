use mathlib.Core.Path.{refl}
use Rattle.base_utf8.specs.Bytewise.{trails}
use Rattle.base_utf8.specs.Boundary.{boundary}
use Rattle.base_utf8.proofs.is_boundary.Goals as goal

pub returns : goal.returns
unfolding boundary trails
returns c = refl
