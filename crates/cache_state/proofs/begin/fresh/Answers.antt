use mathlib.Core.Path.{refl}
use Rattle.cache_state.specs.Begin.{fresh}
use Rattle.cache_state.specs.Words.{standing_in}
use Rattle.cache_state.proofs.begin.fresh.Goals as goal

pub returns : goal.returns
unfolding fresh standing_in
returns c = (refl, refl)
