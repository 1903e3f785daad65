use mathlib.Core.Path.{refl, sym, ◌∙◌}
use native.Mathlib.Omega.{arith}
use Rattle.im_members.specs.Pass.{pass_from}
use Rattle.im_members.proofs.FieldLaws.{onward}
use Rattle.im_members.proofs.PassCases.{pass-headless, pass-last, pass-barred, other-broken, other-walked, listed-twice, listed-stop, listed-broken, listed-walked}
use Rattle.im_members.proofs.PassLaws.{within}
use Rattle.im_members.proofs.resume.Goals as goal

pub loop-e-init : goal.loop-e-init
loop-e-init c = refl

pub returns-in_default : goal.returns-in_default
unfolding pass_from
returns-in_default c = let a = c.args in let l = c.loop-e in
    c.refused.ensures ∙ sym (l.invariant ∙ pass-headless a.left a.s.now a.kind a.listed.now a.stops.now l.at l.codes l.p (sym c.head.ensures ∙ c.in_default.is))

pub returns-then-e-eq-END : goal.returns-then-e-eq-END
unfolding pass_from
returns-then-e-eq-END c = let a = c.args in let l = c.loop-e in
    let h = sym c.head.ensures ∙ c.in-Some.is in
    sym (l.invariant ∙ pass-last a.left a.s.now a.kind a.listed.now a.stops.now l.at l.codes l.p h c.if-e-eq-END.true)

pub returns-then-not-allowed : goal.returns-then-not-allowed
unfolding pass_from
returns-then-not-allowed c = let a = c.args in let l = c.loop-e in
    let h = sym c.head.ensures ∙ c.in-Some.is in
    c.refused-then-not-allowed.ensures ∙ sym (l.invariant ∙ pass-barred a.left a.s.now a.kind a.listed.now a.stops.now l.at l.codes l.p h c.if-e-eq-END.false (sym c.allowed.ensures ∙ c.if-not-allowed.true))

pub returns-in_default-walk_element : goal.returns-in_default-walk_element
unfolding pass_from
returns-in_default-walk_element c = let a = c.args in let l = c.loop-e in
    let h = sym c.head.ensures ∙ c.in-Some.is in
    c.refused-in_default-walk_element.ensures ∙ sym (l.invariant ∙ other-broken a.left a.s.now a.kind a.listed.now a.stops.now l.at l.codes l.p h c.if-e-eq-END.false (sym c.allowed.ensures ∙ c.if-not-allowed.false) c.slot-i.ensures c.if-i-ge10.true (sym c.walk_element.ensures ∙ c.in_default-walk_element.is))

pub loop-e-smaller-then-i-ge10 : goal.loop-e-smaller-then-i-ge10
loop-e-smaller-then-i-ge10 c = let a = c.args in let l = c.loop-e in
    let h = sym c.head.ensures ∙ c.in-Some.is in
    let o = onward a.left a.s.now a.kind a.listed.now l.at l.p h (sym c.walk_element.ensures ∙ c.in-Some-walk_element.is) in
    omega arith

pub loop-e-preserved-then-i-ge10 : goal.loop-e-preserved-then-i-ge10
loop-e-preserved-then-i-ge10 c = let a = c.args in let l = c.loop-e in
    let h = sym c.head.ensures ∙ c.in-Some.is in
    l.invariant ∙ other-walked a.left a.s.now a.kind a.listed.now a.stops.now l.at l.codes l.p h c.if-e-eq-END.false (sym c.allowed.ensures ∙ c.if-not-allowed.false) c.slot-i.ensures c.if-i-ge10.true (sym c.walk_element.ensures ∙ c.in-Some-walk_element.is)

pub returns-then-at-i-ne0 : goal.returns-then-at-i-ne0
unfolding pass_from
returns-then-at-i-ne0 c = let a = c.args in let l = c.loop-e in
    let h = sym c.head.ensures ∙ c.in-Some.is in
    c.refused-then-at-i-ne0.ensures ∙ sym (l.invariant ∙ listed-twice a.left a.s.now a.kind a.listed.now a.stops.now l.at l.codes l.p h c.if-e-eq-END.false (sym c.allowed.ensures ∙ c.if-not-allowed.false) c.slot-i.ensures c.if-i-ge10.false c.if-at-i-ne0.true)

pub overflow_add-at : goal.overflow_add-at
overflow_add-at c = let a = c.args in let l = c.loop-e in
    let o = within a.s.now l.p (sym c.head.ensures ∙ c.in-Some.is) in omega arith

pub returns-then-stops-i : goal.returns-then-stops-i
unfolding pass_from
returns-then-stops-i c = let a = c.args in let l = c.loop-e in
    let h = sym c.head.ensures ∙ c.in-Some.is in
    sym (l.invariant ∙ listed-stop a.left a.s.now a.kind a.listed.now a.stops.now l.at l.codes l.p h c.if-e-eq-END.false (sym c.allowed.ensures ∙ c.if-not-allowed.false) c.slot-i.ensures c.if-i-ge10.false c.if-at-i-ne0.false c.code_of.ensures c.if-stops-i.true)

pub returns-in_default-walk_element-2 : goal.returns-in_default-walk_element-2
unfolding pass_from
returns-in_default-walk_element-2 c = let a = c.args in let l = c.loop-e in
    let h = sym c.head.ensures ∙ c.in-Some.is in
    c.refused-in_default-walk_element-2.ensures ∙ sym (l.invariant ∙ listed-broken a.left a.s.now a.kind a.listed.now a.stops.now l.at l.codes l.p h c.if-e-eq-END.false (sym c.allowed.ensures ∙ c.if-not-allowed.false) c.slot-i.ensures c.if-i-ge10.false c.if-at-i-ne0.false c.code_of.ensures c.if-stops-i.false (sym c.walk_element-else-i-ge10.ensures ∙ c.in_default-walk_element-2.is))

pub loop-e-smaller : goal.loop-e-smaller
loop-e-smaller c = let a = c.args in let l = c.loop-e in
    let h = sym c.head.ensures ∙ c.in-Some.is in
    let o = onward a.left a.s.now a.kind a.listed.now l.at l.p h (sym c.walk_element-else-i-ge10.ensures ∙ c.in-Some-walk_element-2.is) in
    omega arith

pub loop-e-preserved : goal.loop-e-preserved
loop-e-preserved c = let a = c.args in let l = c.loop-e in
    let h = sym c.head.ensures ∙ c.in-Some.is in
    l.invariant ∙ listed-walked a.left a.s.now a.kind a.listed.now a.stops.now l.at l.codes l.p h c.if-e-eq-END.false (sym c.allowed.ensures ∙ c.if-not-allowed.false) c.slot-i.ensures c.if-i-ge10.false c.if-at-i-ne0.false c.code_of.ensures c.if-stops-i.false (sym c.walk_element-else-i-ge10.ensures ∙ c.in-Some-walk_element-2.is)
