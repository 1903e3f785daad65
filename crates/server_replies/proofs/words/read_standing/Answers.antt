use mathlib.Core.Path.{refl}
use Rattle.server_replies.specs.Row.{standing_in}
use Rattle.server_replies.proofs.words.read_standing.Goals as goal

pub returns : goal.returns
unfolding standing_in
returns c = refl
