use Rattle.cache_receive.proofs.LeaveLaws.{refused-by}
use Rattle.cache_receive.specs.Receive.{by_status}
use mathlib.Core.Path.{sym, ◌∙◌}
use Rattle.cache_receive.proofs.take_status.Goals as goal

pub returns-in_default : goal.returns-in_default
unfolding by_status
returns-in_default c = λ clusters keys versions kinds words order lengths kept page old. rw ((sym c.status_response.ensures ∙ c.in_default.is)) (refused-by clusters keys versions kinds words order lengths c.requires.0 c.refuse.ensures)

pub returns : goal.returns
unfolding by_status
returns c = λ clusters keys versions kinds words order lengths kept page old. rw ((sym c.status_response.ensures ∙ c.in-Some.is)) (c.end_with.ensures clusters keys versions kinds words order lengths kept page old)
