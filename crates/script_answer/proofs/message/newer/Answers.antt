use borrow.Author.Tests.{eq-eqb, ne_eqb}
use Rattle.script_answer.specs.Messages.{zeros}
use Rattle.script_answer.proofs.message.newer.Goals as goal

pub returns-then-len-eq0 : goal.returns-then-len-eq0
returns-then-len-eq0 c = rw (eq-eqb c.args.len 0 c.if-len-eq0.true)

pub returns : goal.returns
unfolding zeros
returns c = rw (ne_eqb c.args.len 0 c.if-len-eq0.false, c.put_bytes.ensures.content, c.min.ensures)
