use Rattle.im_requests.specs.Read.{local_f}
use mathlib.Core.Path.{refl}
use Rattle.im_requests.proofs.is_local.Goals as goal

pub returns : goal.returns
unfolding local_f
returns c = refl
