use Rattle.std.proofs.Common.{sym, ap, ◌∙◌}
use Rattle.node_schema.specs.Check.{ranked, well_formed}
use Rattle.node_schema.proofs.BoolLaws.{past, fails}
use Rattle.node_schema.proofs.check.well_formed.Goals as goal

pub returns-then-not-columns_right : goal.returns-then-not-columns_right
unfolding well_formed
returns-then-not-columns_right c = fails _ _ (sym c.columns_right.ensures ∙ c.if-not-columns_right.true)

pub returns : goal.returns
unfolding well_formed
returns c =
    c.all_ranks.ensures
    ∙ ap (ranked c.args.w.now) c.attribute_count.ensures
    ∙ past _ _ (sym c.columns_right.ensures ∙ c.if-not-columns_right.false)
