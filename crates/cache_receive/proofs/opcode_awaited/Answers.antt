use Rattle.cache_receive.specs.Receive.{opcode_awaited}
use borrow.Author.Tests.{eq-eqb, ne_eqb}
use Rattle.cache_receive.proofs.opcode_awaited.Goals as goal

pub returns-then-e-eq-STATUS : goal.returns-then-e-eq-STATUS
unfolding opcode_awaited
returns-then-e-eq-STATUS c = rw (eq-eqb _ _ c.if-e-eq-STATUS.true)

pub returns-then-e-eq-REPORT : goal.returns-then-e-eq-REPORT
unfolding opcode_awaited
returns-then-e-eq-REPORT c = rw (ne_eqb _ _ c.if-e-eq-STATUS.false, eq-eqb _ _ c.if-e-eq-REPORT.true)

pub returns : goal.returns
unfolding opcode_awaited
returns c = rw (ne_eqb _ _ c.if-e-eq-STATUS.false, ne_eqb _ _ c.if-e-eq-REPORT.false)
