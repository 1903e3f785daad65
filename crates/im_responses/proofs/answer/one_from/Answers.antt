use mathlib.Core.Path.{sym, ap, ◌∙◌}
use Rattle.im_blocks.specs.Status.{answer_on}
use Rattle.im_blocks.proofs.OnLaws.{answer-reads}
use Rattle.im_responses.proofs.OneLaws.{one_none, one-ends, one-barred, one-breaks, one-cut, one-there, one_more}
use Rattle.im_responses.proofs.answer.one_from.Goals as goal
use Rattle.tlv_reader.specs.Walk.{read_of}
use Rattle.tlv_reader.proofs.WalkLaws.{read-lacks, read-has}

pub returns-in_err-e : goal.returns-in_err-e
returns-in_err-e c =
    let a = c.args in
    let s = a.s.now in
    let p = a.c.at in
    c.from_residual.ensures ∙ sym (ap read_of (one_none a.left s p (sym c.head.ensures ∙ c.in_err-e.was)))

pub returns-then-e-eq-END : goal.returns-then-e-eq-END
returns-then-e-eq-END c =
    let a = c.args in
    let s = a.s.now in
    let p = a.c.at in
    let h = sym c.head.ensures ∙ c.in_ok-e.was in
    sym (ap read_of (one-ends a.left s p h c.if-e-eq-END.true))

pub returns-then-not-allowed : goal.returns-then-not-allowed
returns-then-not-allowed c =
    let a = c.args in
    let s = a.s.now in
    let p = a.c.at in
    let h = sym c.head.ensures ∙ c.in_ok-e.was in
    let q = c.if-e-eq-END.false in
    sym (ap read_of (one-barred a.left s p h q (sym c.allowed.ensures ∙ c.if-not-allowed.true)))

pub returns-in_err-x : goal.returns-in_err-x
returns-in_err-x c =
    let a = c.args in
    let s = a.s.now in
    let p = a.c.at in
    let h = sym c.head.ensures ∙ c.in_ok-e.was in
    let q = c.if-e-eq-END.false in
    let b = sym c.allowed.ensures ∙ c.if-not-allowed.false in
    c.from_residual-in_err-x.ensures ∙ sym (ap read_of (one-breaks a.left s p h q b ((answer-reads a.left s).here p _ h ∙ read-lacks (answer_on a.left s _) (sym c.answer_of.ensures ∙ c.in_err-x.was))))

pub returns-in_err-f : goal.returns-in_err-f
returns-in_err-f c =
    let a = c.args in
    let s = a.s.now in
    let p = a.c.at in
    let h = sym c.head.ensures ∙ c.in_ok-e.was in
    let q = c.if-e-eq-END.false in
    let b = sym c.allowed.ensures ∙ c.if-not-allowed.false in
    let w = (answer-reads a.left s).here p _ h ∙ read-has (answer_on a.left s _) (sym c.answer_of.ensures ∙ c.in_ok-x.was) in
    c.from_residual-in_err-f.ensures ∙ sym (ap read_of (one-cut a.left s p h q b w (sym c.head-2.ensures ∙ c.in_err-f.was)))

pub returns-then-f-eq-END : goal.returns-then-f-eq-END
returns-then-f-eq-END c =
    let a = c.args in
    let s = a.s.now in
    let p = a.c.at in
    let h = sym c.head.ensures ∙ c.in_ok-e.was in
    let q = c.if-e-eq-END.false in
    let b = sym c.allowed.ensures ∙ c.if-not-allowed.false in
    let w = (answer-reads a.left s).here p _ h ∙ read-has (answer_on a.left s _) (sym c.answer_of.ensures ∙ c.in_ok-x.was) in
    sym (ap read_of (one-there a.left s p h q b w (sym c.head-2.ensures ∙ c.in_ok-f.was) c.if-f-eq-END.true))

pub returns : goal.returns
returns c =
    let a = c.args in
    let s = a.s.now in
    let p = a.c.at in
    let h = sym c.head.ensures ∙ c.in_ok-e.was in
    let q = c.if-e-eq-END.false in
    let b = sym c.allowed.ensures ∙ c.if-not-allowed.false in
    let w = (answer-reads a.left s).here p _ h ∙ read-has (answer_on a.left s _) (sym c.answer_of.ensures ∙ c.in_ok-x.was) in
    sym (ap read_of (one_more a.left s p h q b w (sym c.head-2.ensures ∙ c.in_ok-f.was) c.if-f-eq-END.false))
