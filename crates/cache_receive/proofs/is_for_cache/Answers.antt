use Rattle.cache_receive.specs.Receive.{for_cache}
use borrow.Author.Tests.{eq-eqb, ne_eqb}
use Rattle.cache_receive.proofs.is_for_cache.Goals as goal

pub returns-then-edition : goal.returns-then-edition
unfolding for_cache
returns-then-edition c = rw (ne_eqb _ _ c.if-edition.true)

pub returns-then-opcode-eq-STATUS : goal.returns-then-opcode-eq-STATUS
unfolding for_cache
returns-then-opcode-eq-STATUS c = rw (eq-eqb _ _ c.if-edition.false, eq-eqb _ _ c.if-opcode-eq-STATUS.true)

pub returns-then-opcode-eq-REPORT : goal.returns-then-opcode-eq-REPORT
unfolding for_cache
returns-then-opcode-eq-REPORT c = rw (eq-eqb _ _ c.if-edition.false, ne_eqb _ _ c.if-opcode-eq-STATUS.false, eq-eqb _ _ c.if-opcode-eq-REPORT.true)

pub returns : goal.returns
unfolding for_cache
returns c = rw (eq-eqb _ _ c.if-edition.false, ne_eqb _ _ c.if-opcode-eq-STATUS.false, ne_eqb _ _ c.if-opcode-eq-REPORT.false)
