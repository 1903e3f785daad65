use Rattle.std.proofs.Common.{sym, ap, ◌∙◌}
use Rattle.tlv_reader.specs.Walk.{ended}
use Rattle.tlv_reader.proofs.WalkLaws.{none_left, ends, barred, breaks, goes_on_lem, nearer, end-primitive, end-lone, end-deep, end-within}
use Rattle.tlv_reader.proofs.+walk_container_walk_element.Goals as goal

pub walk_container-returns-in_err-e : goal.walk_container-returns-in_err-e
walk_container-returns-in_err-e t c =
    let a = c.args in
    let l = c.loop-e in
    c.from_residual.ensures ∙ sym (ap ended (l.invariant ∙ none_left a.left a.s.now a.kind l.at (sym c.in_err-e.ensures)))

pub walk_container-returns-then-e-eq-END : goal.walk_container-returns-then-e-eq-END
walk_container-returns-then-e-eq-END t c =
    let a = c.args in
    let l = c.loop-e in
    sym (ap ended (l.invariant ∙ ends a.left a.s.now a.kind l.at (sym c.in_ok-e.ensures) c.if-e-eq-END.true))

pub walk_container-returns-then-not-allowed : goal.walk_container-returns-then-not-allowed
walk_container-returns-then-not-allowed t c =
    let a = c.args in
    let l = c.loop-e in
    sym (ap ended (l.invariant ∙ barred a.left a.s.now a.kind l.at (sym c.in_ok-e.ensures) c.if-e-eq-END.false (sym c.if-not-allowed.ensures)))

pub walk_container-returns-in_err-n : goal.walk_container-returns-in_err-n
walk_container-returns-in_err-n t c =
    let a = c.args in
    let l = c.loop-e in
    c.from_residual-in_err-n.ensures ∙ sym (ap ended (l.invariant ∙ breaks a.left a.s.now a.kind l.at (sym c.in_ok-e.ensures) c.if-e-eq-END.false (sym c.if-not-allowed.ensures) (sym c.in_err-n.ensures)))

pub walk_container-loop-e-smaller : goal.walk_container-loop-e-smaller
walk_container-loop-e-smaller t c =
    let a = c.args in
    nearer a.left a.s.now a.kind c.loop-e.at (sym c.in_ok-e.ensures) (sym c.in_ok-n.ensures)

pub walk_container-loop-e-preserved : goal.walk_container-loop-e-preserved
walk_container-loop-e-preserved t c =
    let a = c.args in
    let l = c.loop-e in
    l.invariant ∙ goes_on_lem a.left a.s.now a.kind l.at (sym c.in_ok-e.ensures) c.if-e-eq-END.false (sym c.if-not-allowed.ensures) (sym c.in_ok-n.ensures)

pub walk_element-returns-then-kind-lt-STRUCTURE : goal.walk_element-returns-then-kind-lt-STRUCTURE
walk_element-returns-then-kind-lt-STRUCTURE t c = let a = c.args in sym (ap ended (end-primitive a.left a.s.now a.e c.if-kind-lt-STRUCTURE.true))

pub walk_element-returns-then-kind-gt-LIST : goal.walk_element-returns-then-kind-gt-LIST
walk_element-returns-then-kind-gt-LIST t c = let a = c.args in sym (ap ended (end-lone a.left a.s.now a.e c.if-kind-gt-LIST.true))

pub walk_element-returns-then-left-eq0 : goal.walk_element-returns-then-left-eq0
walk_element-returns-then-left-eq0 t c = let a = c.args in sym (ap ended (end-deep a.left a.s.now a.e c.if-kind-lt-STRUCTURE.false c.if-left-eq0.true))

pub walk_element-returns : goal.walk_element-returns
walk_element-returns t c =
    let a = c.args in
    c.walk_container.ensures ∙ sym (ap ended (end-within a.left a.s.now a.e c.if-kind-lt-STRUCTURE.false c.if-kind-gt-LIST.false c.if-left-eq0.false))
