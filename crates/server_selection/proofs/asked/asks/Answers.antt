use mathlib.Core.Path.{sym, ◌∙◌}
use Rattle.node_schema.proofs.BoolLaws.{past, fails}
use Rattle.server_selection.specs.Asked.{asks_for}
use Rattle.server_selection.proofs.asked.asks.Goals as goal

pub returns-then-not-part_is : goal.returns-then-not-part_is
unfolding asks_for
returns-then-not-part_is c = fails _ _ (sym c.part_is.ensures ∙ c.if-not-part_is.true)

pub returns-then-not-part_is-2 : goal.returns-then-not-part_is-2
unfolding asks_for
returns-then-not-part_is-2 c = fails _ _ (sym c.part_is-2.ensures ∙ c.if-not-part_is-2.true) ∙ past _ _ (sym c.part_is.ensures ∙ c.if-not-part_is.false)

pub returns : goal.returns
unfolding asks_for
returns c = c.part_is-3.ensures ∙ past _ _ (sym c.part_is-2.ensures ∙ c.if-not-part_is-2.false) ∙ past _ _ (sym c.part_is.ensures ∙ c.if-not-part_is.false)
