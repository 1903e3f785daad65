use mathlib.Core.Path.{ap, ◌∙◌}
use native.Mathlib.Omega.{arith}
use mir.Syntax.{w64}
use mir.ValLaws.{to_z-of_z}
use Rattle.node_kinds.specs.declared.Kind.TheVariants as Kinds
use Rattle.node_kinds.specs.Limits.{against, limited}
use Rattle.node_kinds.proofs.LimitLaws.{another-type}
use Rattle.node_kinds.proofs.SignedLaws.{signed_back}
use Rattle.node_kinds.proofs.limits.judge_signed.Goals as goal

pub returns-in_default : goal.returns-in_default
returns-in_default c = λ s. another-type s (Kinds.Signed c.args.low c.args.high) c.args.v c.in_default.not-Signed

pub returns : goal.returns
unfolding against
returns c = λ s.
    let a = c.args in
    let f = c.ranges in
    let g = c.in-Signed in
    c.limited.ensures ∙ ap limited c.signed_within.ensures ∙ rw (g.is, signed_back g.z (omega arith), to_z-of_z w64 a.low f.low, to_z-of_z w64 a.high f.high)
