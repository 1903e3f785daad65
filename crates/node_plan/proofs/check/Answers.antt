use mathlib.Core.Path.{sym, ap, ◌∙◌}
use mathlib.Core.Bool.{Bool}
use Rattle.tlv_reader.specs.Octet.{pick}
use Rattle.node_schema.proofs.BoolLaws.{past, fails}
use Rattle.node_plan.specs.Check.{done, schema_refused, accepted, checked}
use Rattle.node_plan.proofs.check.Goals as goal

pub returns-then-not-well_formed : goal.returns-then-not-well_formed
unfolding checked accepted
returns-then-not-well_formed c = ap (λ (b : Bool). pick b done schema_refused) (fails _ _ (sym c.well_formed-2.ensures ∙ c.if-not-well_formed.true))

pub returns-then-not-numbers_ok : goal.returns-then-not-numbers_ok
unfolding checked accepted
returns-then-not-numbers_ok c = ap (λ (b : Bool). pick b done schema_refused)
    (fails _ _ (sym c.numbers_ok.ensures ∙ c.if-not-numbers_ok.true)
    ∙ past _ _ (sym c.well_formed-2.ensures ∙ c.if-not-well_formed.false))

pub returns-then-not-texts_ok : goal.returns-then-not-texts_ok
unfolding checked accepted
returns-then-not-texts_ok c = ap (λ (b : Bool). pick b done schema_refused)
    (sym (sym c.texts_ok.ensures ∙ c.if-not-texts_ok.true)
    ∙ past _ _ (sym c.numbers_ok.ensures ∙ c.if-not-numbers_ok.false)
    ∙ past _ _ (sym c.well_formed-2.ensures ∙ c.if-not-well_formed.false))

pub returns : goal.returns
unfolding checked accepted
returns c = ap (λ (b : Bool). pick b done schema_refused)
    (sym (sym c.texts_ok.ensures ∙ c.if-not-texts_ok.false)
    ∙ past _ _ (sym c.numbers_ok.ensures ∙ c.if-not-numbers_ok.false)
    ∙ past _ _ (sym c.well_formed-2.ensures ∙ c.if-not-well_formed.false))
