use mathlib.Core.Path.{◌≡◌, sym, ◌∙◌}
use native.Mathlib.Omega.{arith}
use Rattle.node_kinds.specs.declared.Kind.{Kind}
use Rattle.node_kinds.specs.declared.Kind.TheVariants as Kinds
use Rattle.node_kinds.specs.Limits.{against_in, judged_in}
use Rattle.node_kinds.proofs.SignedLaws.{signed_back}
use Rattle.node_kinds.proofs.LimitLaws.{null-verdict, present-verdict}
use Rattle.node_kinds.proofs.limits.judge.Goals as goal
use Rattle.node_kinds.proofs.limits.judge.Goals.{Else-is_null}

-- in an arm of the match the value is not null, and the kind is that of the arm
arm :
    (e : Else-is_null) (k : Kind) →
    e.args.kind ≡ k →
    against_in e.args.src.now e.args.v k
    ≡ judged_in e.args.src.now e.args.kind e.args.nullable e.args.v
arm e k q =
    let g = e.args in
    rw q (sym (present-verdict g.src.now k g.nullable g.v (sym e.is_null.ensures ∙ e.if-is_null.false)))

pub returns-then-is_null : goal.returns-then-is_null
returns-then-is_null c =
    let g = c.args in
    c.limited.ensures
    ∙ sym (null-verdict g.src.now g.kind g.nullable g.v (sym c.is_null.ensures ∙ c.if-is_null.true))

pub returns-in-Boolean : goal.returns-in-Boolean
returns-in-Boolean c = c.judge_boolean.ensures c.args.src.now ∙ arm (goal.at.returns-in-Boolean c).Else-is_null Kinds.Boolean c.in-Boolean.is

pub returns-in-Unsigned : goal.returns-in-Unsigned
returns-in-Unsigned c =
    let g = c.in-Unsigned in
    c.judge_unsigned.ensures c.args.src.now ∙ arm (goal.at.returns-in-Unsigned c).Else-is_null (Kinds.Unsigned g.low g.high) g.is

pub returns-in-Signed : goal.returns-in-Signed
returns-in-Signed c =
    let g = c.in-Signed in
    c.judge_signed.ensures c.args.src.now
    ∙ rw (signed_back g.low (omega arith), signed_back g.high (omega arith)) (arm (goal.at.returns-in-Signed c).Else-is_null (Kinds.Signed g.low g.high) g.is)

pub returns-in-Float : goal.returns-in-Float
returns-in-Float c =
    let g = c.in-Float in
    c.judge_float.ensures c.args.src.now ∙ arm (goal.at.returns-in-Float c).Else-is_null (Kinds.Float g.range) g.is

pub returns-in-Text : goal.returns-in-Text
returns-in-Text c = c.judge_text.ensures ∙ arm (goal.at.returns-in-Text c).Else-is_null Kinds.Text c.in-Text.is
