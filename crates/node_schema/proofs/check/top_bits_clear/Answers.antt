use Rattle.std.proofs.Common.{◌∙◌, le-ltb, lt-ltb, eq-eqb, ne_eqb}
use Rattle.node_schema.proofs.BoolLaws.{past, fails}
use Rattle.node_schema.proofs.check.top_bits_clear.Goals as goal

pub returns-then-x-ge2147483648 : goal.returns-then-x-ge2147483648
returns-then-x-ge2147483648 c = fails _ _ (le-ltb _ _ c.if-x-ge2147483648.true)

pub returns-then-x-ne0 : goal.returns-then-x-ne0
returns-then-x-ne0 c = fails _ _ (ne_eqb _ _ c.if-x-ne0.true) ∙ past _ _ (lt-ltb _ _ c.if-x-ge2147483648.false)

pub returns-then-x-ne0-2 : goal.returns-then-x-ne0-2
returns-then-x-ne0-2 c = fails _ _ (ne_eqb _ _ c.if-x-ne0-2.true) ∙ past _ _ (eq-eqb _ _ c.if-x-ne0.false) ∙ past _ _ (lt-ltb _ _ c.if-x-ge2147483648.false)

pub returns : goal.returns
returns c = past _ _ (eq-eqb _ _ c.if-x-ne0-2.false) ∙ past _ _ (eq-eqb _ _ c.if-x-ne0.false) ∙ past _ _ (lt-ltb _ _ c.if-x-ge2147483648.false)
