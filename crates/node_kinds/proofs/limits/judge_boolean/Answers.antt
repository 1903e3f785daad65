use Rattle.node_kinds.specs.declared.Kind.TheVariants as Kinds
use Rattle.node_kinds.specs.Limits.{against}
use Rattle.node_kinds.proofs.LimitLaws.{another-type}
use Rattle.node_kinds.proofs.limits.judge_boolean.Goals as goal

pub returns-in_default : goal.returns-in_default
returns-in_default c = λ s. another-type s Kinds.Boolean c.args.v c.in_default.not-Boolean

pub returns : goal.returns
unfolding against
returns c = λ s. rw c.in-Boolean.is
