use mathlib.Core.Path.{refl, sym, ◌∙◌}
use mathlib.Core.Bool.{false}
use borrow.Author.Rules.{rules}
use lib.ListN.{get_or}
use Rattle.node_schema.specs.Check.{every}
use Rattle.node_schema.proofs.CheckLaws.{every_more, every-fails, every-done}
use Rattle.server_values.specs.Values.{mark_at}
use Rattle.server_values.specs.Valid.{shown_at}
use Rattle.server_values.proofs.valid.all_texts.Goals as goal

pub loop-i-init : goal.loop-i-init
unfolding every
loop-i-init c = (c.attribute_count-n.ensures, refl)

pub returns-then-not-text_ok : goal.returns-then-not-text_ok
returns-then-not-text_ok c =
    let a = c.args in
    every-fails (λ k. shown_at a.w.now a.defaults.now a.edits.now k (get_or a.nulls.now k false) (mark_at a.w.now a.texts.now k)) _ c.loop-i.i (search rules) (sym c.text_ok.ensures ∙ c.if-not-text_ok.true)

pub loop-i-preserved : goal.loop-i-preserved
loop-i-preserved c =
    let a = c.args in
    let l = c.loop-i in
    (l.invariant.0, every_more (λ k. shown_at a.w.now a.defaults.now a.edits.now k (get_or a.nulls.now k false) (mark_at a.w.now a.texts.now k)) _ l.invariant.1 (sym c.text_ok.ensures ∙ c.if-not-text_ok.false))

pub returns : goal.returns
returns c =
    let a = c.args in
    every-done (λ k. shown_at a.w.now a.defaults.now a.edits.now k (get_or a.nulls.now k false) (mark_at a.w.now a.texts.now k)) _ _ (search rules) (search rules) c.loop-i.invariant.1
