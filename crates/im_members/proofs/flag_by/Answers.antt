use borrow.Author.Tests.{eq-eqb, ne_eqb}
use Rattle.im_members.specs.Pass.{flag_by}
use Rattle.im_members.proofs.flag_by.Goals as goal

-- src/lib.rt:345:9
pub returns-then-c-eq0 : goal.returns-then-c-eq0
unfolding flag_by
returns-then-c-eq0 c = simp (eq-eqb _ _ c.if-c-eq0.true)

-- src/lib.rt:348:9
pub returns-then-c-eq4 : goal.returns-then-c-eq4
unfolding flag_by
returns-then-c-eq4 c = simp (ne_eqb _ _ c.if-c-eq0.false, eq-eqb _ _ c.if-c-eq4.true)

-- src/lib.rt:351:9
pub returns-then-c-eq5 : goal.returns-then-c-eq5
unfolding flag_by
returns-then-c-eq5 c = simp (ne_eqb _ _ c.if-c-eq0.false, ne_eqb _ _ c.if-c-eq4.false, eq-eqb _ _ c.if-c-eq5.true)

-- src/lib.rt:341:1
pub returns : goal.returns
unfolding flag_by
returns c = simp (ne_eqb _ _ c.if-c-eq0.false, ne_eqb _ _ c.if-c-eq4.false, ne_eqb _ _ c.if-c-eq5.false)
