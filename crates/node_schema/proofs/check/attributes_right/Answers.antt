use Rattle.std.proofs.Common.{sym, ◌∙◌}
use Rattle.node_schema.proofs.BoolLaws.{past, fails}
use Rattle.node_schema.proofs.check.attributes_right.Goals as goal

pub returns-then-not-rising : goal.returns-then-not-rising
returns-then-not-rising c = fails _ _ (sym c.rising.ensures ∙ c.if-not-rising.true)

pub returns : goal.returns
returns c = c.all_traits.ensures ∙ past _ _ (sym c.rising.ensures ∙ c.if-not-rising.false)
