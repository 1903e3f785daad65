use Rattle.std.proofs.Common.{ℕ, leb, sym, ap, ◌∙◌}
use Rattle.base_bounds.specs.Bounds.{endpoint_limit}
use Rattle.node_schema.proofs.BoolLaws.{past, fails}
use Rattle.node_schema.proofs.check.clusters_right.Goals as goal

pub returns-then-not-rising : goal.returns-then-not-rising
returns-then-not-rising c = fails _ _ (sym c.rising.ensures ∙ c.if-not-rising.true)

pub returns-then-not-all_below : goal.returns-then-not-all_below
returns-then-not-all_below c = fails _ _ (sym c.all_below.ensures ∙ c.if-not-all_below.true) ∙ past _ _ (sym c.rising.ensures ∙ c.if-not-rising.false)

pub returns : goal.returns
returns c =
    ap (λ (m : ℕ). leb m endpoint_limit) c.endpoint_changes.ensures
    ∙ past _ _ (sym c.all_below.ensures ∙ c.if-not-all_below.false)
    ∙ past _ _ (sym c.rising.ensures ∙ c.if-not-rising.false)
