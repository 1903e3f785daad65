use borrow.Author.Tests.{eq-eqb, ne_eqb, lt-ltb, le-ltb}
use Rattle.im_members.specs.Pass.{code_of}
use Rattle.im_members.proofs.code_of.Goals as goal

-- src/lib.rt:226:9
pub returns-then-kind-eq20 : goal.returns-then-kind-eq20
unfolding code_of
returns-then-kind-eq20 c = simp (eq-eqb _ _ c.if-kind-eq20.true)

-- src/lib.rt:229:9
pub returns-then-kind-lt4 : goal.returns-then-kind-lt4
unfolding code_of
returns-then-kind-lt4 c = simp (ne_eqb _ _ c.if-kind-eq20.false, lt-ltb _ _ c.if-kind-lt4.true)

-- src/lib.rt:233:13
pub returns-then-kind-eq8 : goal.returns-then-kind-eq8
unfolding code_of
returns-then-kind-eq8 c = simp (ne_eqb _ _ c.if-kind-eq20.false, le-ltb _ _ c.if-kind-lt4.false, lt-ltb _ _ c.if-kind-gt7.true, eq-eqb _ _ c.if-kind-eq8.true)

-- src/lib.rt:236:13
pub returns-then-kind-eq9 : goal.returns-then-kind-eq9
unfolding code_of
returns-then-kind-eq9 c = simp (ne_eqb _ _ c.if-kind-eq20.false, le-ltb _ _ c.if-kind-lt4.false, lt-ltb _ _ c.if-kind-gt7.true, ne_eqb _ _ c.if-kind-eq8.false, eq-eqb _ _ c.if-kind-eq9.true)

-- src/lib.rt:238:9
pub returns-then-kind-gt7 : goal.returns-then-kind-gt7
unfolding code_of
returns-then-kind-gt7 c = simp (ne_eqb _ _ c.if-kind-eq20.false, le-ltb _ _ c.if-kind-lt4.false, lt-ltb _ _ c.if-kind-gt7.true, ne_eqb _ _ c.if-kind-eq8.false, ne_eqb _ _ c.if-kind-eq9.false)

-- src/lib.rt:241:9
pub returns-then-n-gt4294967295 : goal.returns-then-n-gt4294967295
unfolding code_of
returns-then-n-gt4294967295 c = simp (ne_eqb _ _ c.if-kind-eq20.false, le-ltb _ _ c.if-kind-lt4.false, le-ltb _ _ c.if-kind-gt7.false, lt-ltb _ _ c.if-n-gt4294967295.true)

-- src/lib.rt:222:1
pub returns : goal.returns
unfolding code_of
returns c = simp (ne_eqb _ _ c.if-kind-eq20.false, le-ltb _ _ c.if-kind-lt4.false, le-ltb _ _ c.if-kind-gt7.false, le-ltb _ _ c.if-n-gt4294967295.false)
