use mathlib.Core.Path.{sym, ap, ◌∙◌}
use mathlib.Core.Bool.{true, false}
use Rattle.node_schema.specs.Check.{every}
use Rattle.node_schema.proofs.BoolLaws.{past, fails}
use Rattle.server_values.specs.Quick.{formed_at, null_at, unmarked, quick_right}
use Rattle.server_values.proofs.quick.is_quick.Goals as goal

pub returns-then-not-nulls_ok : goal.returns-then-not-nulls_ok
unfolding quick_right
returns-then-not-nulls_ok c =
    let a = c.args in
    let z = c.nulls_ok.ensures ∙ ap (every (null_at a.w.now a.words.now a.nulls.now)) c.attribute_count-n.ensures in
    fails _ _ (sym z ∙ c.if-not-nulls_ok.true)

pub returns-then-not-is_fit : goal.returns-then-not-is_fit
unfolding quick_right
returns-then-not-is_fit c =
    let a = c.args in
    let z = c.nulls_ok.ensures ∙ ap (every (null_at a.w.now a.words.now a.nulls.now)) c.attribute_count-n.ensures in
    let e = c.is_fit.ensures ∙ ap (every (formed_at a.w.now a.defaults.now unmarked true)) c.text_room-room.ensures in
    fails _ _ (sym e ∙ c.if-not-is_fit.true) ∙ past _ _ (sym z ∙ c.if-not-nulls_ok.false)

pub returns-then-not-is_fit-2 : goal.returns-then-not-is_fit-2
unfolding quick_right
returns-then-not-is_fit-2 c =
    let a = c.args in
    let z = c.nulls_ok.ensures ∙ ap (every (null_at a.w.now a.words.now a.nulls.now)) c.attribute_count-n.ensures in
    let e = c.is_fit.ensures ∙ ap (every (formed_at a.w.now a.defaults.now unmarked true)) c.text_room-room.ensures in
    let f = c.is_fit-2.ensures ∙ ap (every (formed_at a.w.now a.edits.now a.texts.now false)) c.text_room-room.ensures in
    fails _ _ (sym f ∙ c.if-not-is_fit-2.true) ∙ past _ _ (sym e ∙ c.if-not-is_fit.false) ∙ past _ _ (sym z ∙ c.if-not-nulls_ok.false)

pub all_quick-requires : goal.all_quick-requires
all_quick-requires c =
    let a = c.args in
    sym (c.nulls_ok.ensures ∙ ap (every (null_at a.w.now a.words.now a.nulls.now)) c.attribute_count-n.ensures)
    ∙ c.if-not-nulls_ok.false

pub returns : goal.returns
unfolding quick_right
returns c =
    let a = c.args in
    let z = c.nulls_ok.ensures ∙ ap (every (null_at a.w.now a.words.now a.nulls.now)) c.attribute_count-n.ensures in
    let e = c.is_fit.ensures ∙ ap (every (formed_at a.w.now a.defaults.now unmarked true)) c.text_room-room.ensures in
    let f = c.is_fit-2.ensures ∙ ap (every (formed_at a.w.now a.edits.now a.texts.now false)) c.text_room-room.ensures in
    c.all_quick.ensures
    ∙ past _ _ (sym f ∙ c.if-not-is_fit-2.false)
    ∙ past _ _ (sym e ∙ c.if-not-is_fit.false)
    ∙ past _ _ (sym z ∙ c.if-not-nulls_ok.false)
