use borrow.Author.Tests.{eq-eqb, ne_eqb, lt-ltb, le-ltb}
use Rattle.im_blocks.specs.Path.{loose}
use Rattle.im_blocks.proofs.is_loose.Goals as goal

pub returns-then-p-ne-ABSENT : goal.returns-then-p-ne-ABSENT
unfolding loose
returns-then-p-ne-ABSENT c = simp (ne_eqb _ _ c.if-p-ne-ABSENT.true)

pub returns-then-p-eq-ABSENT : goal.returns-then-p-eq-ABSENT
unfolding loose
returns-then-p-eq-ABSENT c = simp (eq-eqb _ _ c.if-p-ne-ABSENT.false, eq-eqb _ _ c.if-p-eq-ABSENT.true)

pub returns-then-p-lt65528 : goal.returns-then-p-lt65528
unfolding loose
returns-then-p-lt65528 c = simp (eq-eqb _ _ c.if-p-ne-ABSENT.false, ne_eqb _ _ c.if-p-eq-ABSENT.false, lt-ltb _ _ c.if-p-lt65528.true)

pub returns : goal.returns
unfolding loose
returns c = simp (eq-eqb _ _ c.if-p-ne-ABSENT.false, ne_eqb _ _ c.if-p-eq-ABSENT.false, le-ltb _ _ c.if-p-lt65528.false)
