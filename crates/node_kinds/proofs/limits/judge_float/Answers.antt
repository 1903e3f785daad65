use mathlib.Core.Path.{ap, ◌∙◌}
use Rattle.node_kinds.specs.declared.Kind.TheVariants as Kinds
use Rattle.node_kinds.specs.Limits.{against, limited}
use Rattle.node_kinds.proofs.LimitLaws.{another-type}
use Rattle.node_kinds.proofs.limits.judge_float.Goals as goal

pub returns-in_default : goal.returns-in_default
returns-in_default c = λ s. another-type s (Kinds.Float c.args.range) c.args.v c.in_default.not-Float

pub returns : goal.returns
unfolding against
returns c = λ s. c.limited.ensures ∙ ap limited c.in_range.ensures ∙ rw c.in-Float.is
