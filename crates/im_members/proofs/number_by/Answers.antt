use borrow.Author.Tests.{eq-eqb, ne_eqb, lt-ltb, le-ltb}
use Rattle.im_members.specs.Pass.{number_by}
use Rattle.im_members.proofs.number_by.Goals as goal

-- src/lib.rt:324:13
pub returns-then-most-c : goal.returns-then-most-c
unfolding number_by
returns-then-most-c c = simp (lt-ltb _ _ c.if-c-gt5.true, lt-ltb _ _ c.if-most-c.true)

-- src/lib.rt:326:9
pub returns-then-c-gt5 : goal.returns-then-c-gt5
unfolding number_by
returns-then-c-gt5 c = simp (lt-ltb _ _ c.if-c-gt5.true, le-ltb _ _ c.if-most-c.false)

-- src/lib.rt:329:9
pub returns-then-c-eq0 : goal.returns-then-c-eq0
unfolding number_by
returns-then-c-eq0 c = simp (le-ltb _ _ c.if-c-gt5.false, eq-eqb _ _ c.if-c-eq0.true)

-- src/lib.rt:333:13
pub returns-then-nullable : goal.returns-then-nullable
unfolding number_by
returns-then-nullable c = simp (le-ltb _ _ c.if-c-gt5.false, ne_eqb _ _ c.if-c-eq0.false, eq-eqb _ _ c.if-c-eq1.true, c.if-nullable.true)

-- src/lib.rt:335:9
pub returns-then-c-eq1 : goal.returns-then-c-eq1
unfolding number_by
returns-then-c-eq1 c = simp (le-ltb _ _ c.if-c-gt5.false, ne_eqb _ _ c.if-c-eq0.false, eq-eqb _ _ c.if-c-eq1.true, c.if-nullable.false)

-- src/lib.rt:319:1
pub returns : goal.returns
unfolding number_by
returns c = simp (le-ltb _ _ c.if-c-gt5.false, ne_eqb _ _ c.if-c-eq0.false, ne_eqb _ _ c.if-c-eq1.false)
