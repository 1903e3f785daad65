use mathlib.Core.Path.{ap, ◌∙◌}
use Rattle.node_kinds.specs.declared.Kind.TheVariants as Kinds
use Rattle.node_kinds.specs.Limits.{against, limited}
use Rattle.node_kinds.proofs.LimitLaws.{another-type}
use Rattle.node_kinds.proofs.limits.judge_unsigned.Goals as goal

pub returns-in_default : goal.returns-in_default
returns-in_default c = λ s. another-type s (Kinds.Unsigned c.args.low c.args.high) c.args.v c.in_default.not-Unsigned

pub returns : goal.returns
unfolding against
returns c = λ s. c.limited.ensures ∙ ap limited c.unsigned_within.ensures ∙ rw c.in-Unsigned.is
