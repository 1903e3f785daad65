use Rattle.cache_receive.specs.Steps.{by_reply}
use borrow.Author.Tests.{eq-eqb, ne_eqb}
use Rattle.cache_receive.proofs.take_reply.Goals as goal

pub returns-then-opcode-eq-STATUS : goal.returns-then-opcode-eq-STATUS
unfolding by_reply
returns-then-opcode-eq-STATUS c = λ clusters keys versions kinds words order lengths kept page old. rw (eq-eqb c.args.opcode 1 c.if-opcode-eq-STATUS.true) (c.take_status.ensures clusters keys versions kinds words order lengths kept page old)

pub returns : goal.returns
unfolding by_reply
returns c = λ clusters keys versions kinds words order lengths kept page old. rw (ne_eqb c.args.opcode 1 c.if-opcode-eq-STATUS.false) (c.take_answer.ensures clusters keys versions kinds words order lengths kept page old)
