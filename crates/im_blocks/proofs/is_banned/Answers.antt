use borrow.Author.Tests.{eq-eqb, ne_eqb}
use Rattle.im_blocks.specs.Path.{banned}
use Rattle.im_blocks.proofs.is_banned.Goals as goal

pub returns-then-p-eq1 : goal.returns-then-p-eq1
unfolding banned
returns-then-p-eq1 c = simp (eq-eqb _ _ c.if-p-eq1.true)

pub returns-then-p-ne-ABSENT : goal.returns-then-p-ne-ABSENT
unfolding banned
returns-then-p-ne-ABSENT c = simp (ne_eqb _ _ c.if-p-eq1.false, ne_eqb _ _ c.if-p-ne-ABSENT.true)

pub returns : goal.returns
unfolding banned
returns c = rw (ne_eqb _ _ c.if-p-eq1.false, eq-eqb _ _ c.if-p-ne-ABSENT.false)
