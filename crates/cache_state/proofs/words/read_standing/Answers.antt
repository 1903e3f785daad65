use mathlib.Core.Path.{refl}
use Rattle.cache_state.specs.Words.{standing_in}
use borrow.Author.Rules.{rules}
use Rattle.cache_state.proofs.words.read_standing.Goals as goal

pub returns : goal.returns
unfolding standing_in
returns c = record { value = refl; whole = search rules }
