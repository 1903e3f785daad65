use borrow.Author.Tests.{eq-eqb, ne_eqb, lt-ltb, le-ltb}
use Rattle.im_members.specs.Pass.{wide_by}
use Rattle.im_members.proofs.wide_by.Goals as goal

-- src/lib.rt:361:9
pub returns-then-c-eq0 : goal.returns-then-c-eq0
unfolding wide_by
returns-then-c-eq0 c = simp (eq-eqb _ _ c.if-c-eq0.true)

-- src/lib.rt:364:9
pub returns-then-c-eq3 : goal.returns-then-c-eq3
unfolding wide_by
returns-then-c-eq3 c = simp (ne_eqb _ _ c.if-c-eq0.false, eq-eqb _ _ c.if-c-eq3.true)

-- src/lib.rt:367:9
pub returns-then-c-gt5 : goal.returns-then-c-gt5
unfolding wide_by
returns-then-c-gt5 c = simp (ne_eqb _ _ c.if-c-eq0.false, ne_eqb _ _ c.if-c-eq3.false, lt-ltb _ _ c.if-c-gt5.true)

-- src/lib.rt:357:1
pub returns : goal.returns
unfolding wide_by
returns c = simp (ne_eqb _ _ c.if-c-eq0.false, ne_eqb _ _ c.if-c-eq3.false, le-ltb _ _ c.if-c-gt5.false)
