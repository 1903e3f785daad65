use mathlib.Core.Path.{refl}
use Rattle.base_octets.specs.Store.{store}
use Rattle.cache_state.specs.Words.{standing_words}
use Rattle.cache_state.proofs.words.put_standing.Goals as goal

pub returns : goal.returns
unfolding store standing_words
returns c = refl
