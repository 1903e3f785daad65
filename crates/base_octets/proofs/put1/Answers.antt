use mathlib.Core.Path.{refl}
use Rattle.base_octets.specs.Store.{store}
use Rattle.base_octets.proofs.put1.Goals as goal

pub returns : goal.returns
unfolding store
returns c = record { content = refl; place = refl }
