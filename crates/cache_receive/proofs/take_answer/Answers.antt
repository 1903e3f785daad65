use Rattle.cache_receive.proofs.LeaveLaws.{refused-by}
use Rattle.cache_receive.specs.Receive.{by_answer}
use mathlib.Core.Path.{sym, ◌∙◌}
use Rattle.cache_receive.proofs.take_answer.Goals as goal

pub returns-in_default : goal.returns-in_default
unfolding by_answer
returns-in_default c = λ clusters keys versions kinds words order lengths kept page old. rw ((sym c.write_response.ensures ∙ c.in_default.is)) (refused-by clusters keys versions kinds words order lengths c.requires.0 c.refuse.ensures)

pub returns-then-not-is_of_write : goal.returns-then-not-is_of_write
unfolding by_answer
returns-then-not-is_of_write c = λ clusters keys versions kinds words order lengths kept page old. rw ((sym c.write_response.ensures ∙ c.in-Some.is), sym (c.is_of_write.ensures kept) ∙ c.if-not-is_of_write.true) (refused-by clusters keys versions kinds words order lengths c.requires.0 c.refuse-then-not-is_of_write.ensures)

pub returns : goal.returns
unfolding by_answer
returns c = λ clusters keys versions kinds words order lengths kept page old. rw ((sym c.write_response.ensures ∙ c.in-Some.is), sym (c.is_of_write.ensures kept) ∙ c.if-not-is_of_write.false) (c.end_with.ensures clusters keys versions kinds words order lengths kept page old)
