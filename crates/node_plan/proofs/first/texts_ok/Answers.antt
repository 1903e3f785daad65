use borrow.Author.Rules.{rules}
use mathlib.Core.Path.{refl, sym, ap₂, ◌∙◌}
use Rattle.node_schema.specs.Rows.{factory_start, factory_length}
use Rattle.node_schema.specs.Check.{every}
use Rattle.node_schema.proofs.CheckLaws.{every_more, every-fails, every-done}
use Rattle.node_plan.specs.Check.{factory_right, texts_right}
use Rattle.node_plan.proofs.first.texts_ok.Goals as goal

pub loop-rank-init : goal.loop-rank-init
unfolding every
loop-rank-init c = (c.text_count-n.ensures, refl)

pub returns-then-not-factory_ok : goal.returns-then-not-factory_ok
unfolding texts_right
returns-then-not-factory_ok c =
    let a = c.args in
    every-fails (λ r. factory_right a.defaults.now (factory_start a.w.now r) (factory_length a.w.now r)) _ c.loop-rank.rank (search rules)
    (sym (c.factory_ok.ensures ∙ ap₂ (factory_right a.defaults.now) c.factory_start-start.ensures c.factory_length-len.ensures) ∙ c.if-not-factory_ok.true)

pub loop-rank-preserved : goal.loop-rank-preserved
loop-rank-preserved c =
    let a = c.args in
    let l = c.loop-rank in (
      l.invariant.0,
      every_more _ _ l.invariant.1
          (sym (c.factory_ok.ensures ∙ ap₂ (factory_right a.defaults.now) c.factory_start-start.ensures c.factory_length-len.ensures) ∙ c.if-not-factory_ok.false),
    )

pub returns : goal.returns
unfolding texts_right
returns c = every-done _ _ _ (search rules) (search rules) c.loop-rank.invariant.1
