use mathlib.Core.Path.{◌≡◌, sym, ap, ◌∙◌}
use Rattle.node_schema.specs.Check.{every}
use Rattle.node_schema.specs.Rows.{count_of_attributes}
use Rattle.node_schema.proofs.BoolLaws.{past, fails}
use Rattle.server_values.specs.Quick.{null_at}
use Rattle.server_values.proofs.CloseLaws.{close-right}
use Rattle.server_values.proofs.valid.all_right.Goals as goal
use Rattle.server_values.proofs.valid.all_right.Goals.{After-nulls_ok}

pub returns-then-not-texts_ok : goal.returns-then-not-texts_ok
returns-then-not-texts_ok c =
    let a = c.args in
    fails _ _ (sym c.texts_ok.ensures ∙ c.if-not-texts_ok.true) ∙ close-right a.w.now a.defaults.now a.edits.now a.words.now a.nulls.now a.texts.now

-- the nulls, as they were asked for
nulls-as : (c : After-nulls_ok) → let a = c.args in c.nulls_ok.result ≡ every (null_at a.w.now a.words.now a.nulls.now) (count_of_attributes a.w.now)
nulls-as c =
    let a = c.args in
    c.nulls_ok.ensures ∙ ap (every (null_at a.w.now a.words.now a.nulls.now)) c.attribute_count-n.ensures

pub returns-then-not-nulls_ok : goal.returns-then-not-nulls_ok
returns-then-not-nulls_ok c =
    let a = c.args in
    fails _ _ (sym (nulls-as (goal.at.returns-then-not-nulls_ok c).After-nulls_ok) ∙ c.if-not-nulls_ok.true)
    ∙ past _ _ (sym c.texts_ok.ensures ∙ c.if-not-texts_ok.false)
    ∙ close-right a.w.now a.defaults.now a.edits.now a.words.now a.nulls.now a.texts.now

pub all_quick-requires : goal.all_quick-requires
all_quick-requires c = sym (nulls-as (goal.at.all_quick-requires c).After-nulls_ok) ∙ c.if-not-nulls_ok.false

pub returns-then-not-all_quick : goal.returns-then-not-all_quick
returns-then-not-all_quick c =
    let a = c.args in
    fails _ _ (sym c.all_quick.ensures ∙ c.if-not-all_quick.true)
    ∙ past _ _ (sym (nulls-as (goal.at.returns-then-not-all_quick c).After-nulls_ok) ∙ c.if-not-nulls_ok.false)
    ∙ past _ _ (sym c.texts_ok.ensures ∙ c.if-not-texts_ok.false)
    ∙ close-right a.w.now a.defaults.now a.edits.now a.words.now a.nulls.now a.texts.now

pub returns : goal.returns
returns c =
    let a = c.args in
    c.all_texts.ensures
    ∙ past _ _ (sym c.all_quick.ensures ∙ c.if-not-all_quick.false)
    ∙ past _ _ (sym (nulls-as (goal.at.returns c).After-nulls_ok) ∙ c.if-not-nulls_ok.false)
    ∙ past _ _ (sym c.texts_ok.ensures ∙ c.if-not-texts_ok.false)
    ∙ close-right a.w.now a.defaults.now a.edits.now a.words.now a.nulls.now a.texts.now
