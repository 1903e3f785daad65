use borrow.Author.Rules.{rules}
use mathlib.Core.Path.{refl, sym, ◌∙◌}
use Rattle.node_schema.specs.Rows.{attribute_row}
use Rattle.node_schema.specs.Check.{every}
use Rattle.node_schema.proofs.CheckLaws.{every_more, every-fails, every-done}
use Rattle.node_plan.specs.Check.{number_right, numbers_right}
use Rattle.node_plan.proofs.first.numbers_ok.Goals as goal

pub loop-i-init : goal.loop-i-init
unfolding every
loop-i-init c = (c.attribute_count-n.ensures, refl)

pub returns-then-not-first_ok : goal.returns-then-not-first_ok
unfolding numbers_right
returns-then-not-first_ok c = every-fails (λ k. number_right (attribute_row c.args.w.now k)) _ c.loop-i.i (search rules) (sym c.first_ok.ensures ∙ c.if-not-first_ok.true)

pub loop-i-preserved : goal.loop-i-preserved
loop-i-preserved c = (c.loop-i.invariant.0, every_more _ _ c.loop-i.invariant.1 (sym c.first_ok.ensures ∙ c.if-not-first_ok.false))

pub returns : goal.returns
unfolding numbers_right
returns c = every-done _ _ _ (search rules) (search rules) c.loop-i.invariant.1
