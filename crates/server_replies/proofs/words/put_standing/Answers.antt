use Rattle.base_octets.specs.Store.{store}
use Rattle.server_replies.specs.Row.{standing_words}
use mathlib.Core.Path.{refl}
use Rattle.server_replies.proofs.words.put_standing.Goals as goal

pub returns : goal.returns
unfolding store standing_words
returns c = refl
