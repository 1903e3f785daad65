use Rattle.std.proofs.Common.{get_or, sym, ap, ◌∙◌, ap₂, arith, le-leb}
use borrow.Author.Tests.{lt-leb}
use Rattle.base_bounds.specs.Bounds.{cluster_limit, attribute_limit}
use Rattle.node_schema.specs.Layout.{cluster_count_word, attribute_count_word, spare_column, spare_count}
use Rattle.node_schema.specs.Check.{all_below, clusters_right, attributes_right}
use Rattle.node_schema.proofs.BoolLaws.{past, fails}
use Rattle.node_schema.proofs.check.columns_right.Goals as goal

pub returns-then-not-all_below : goal.returns-then-not-all_below
returns-then-not-all_below c = fails _ _ (sym c.all_below.ensures ∙ c.if-not-all_below.true)

pub returns-then-w : goal.returns-then-w
returns-then-w c =
    let w = c.args.w.now in
    fails _ _ (lt-leb (get_or w cluster_count_word 0) cluster_limit (omega arith))
    ∙ past (all_below w spare_column spare_count 1) _ (sym c.all_below.ensures ∙ c.if-not-all_below.false)

pub returns-then-w-2 : goal.returns-then-w-2
returns-then-w-2 c =
    let w = c.args.w.now in
    fails _ _ (lt-leb (get_or w attribute_count_word 0) attribute_limit (omega arith))
    ∙ past _ _ (le-leb (get_or w cluster_count_word 0) cluster_limit (omega arith))
    ∙ past (all_below w spare_column spare_count 1) _ (sym c.all_below.ensures ∙ c.if-not-all_below.false)

pub returns-then-not-clusters_right : goal.returns-then-not-clusters_right
returns-then-not-clusters_right c =
    let w = c.args.w.now in
    let e = c.clusters_right.ensures ∙ ap (clusters_right w) c.cluster_count-n.ensures in
    fails _ _ (sym e ∙ c.if-not-clusters_right.true)
    ∙ past _ _ (le-leb (get_or w attribute_count_word 0) attribute_limit (omega arith))
    ∙ past _ _ (le-leb (get_or w cluster_count_word 0) cluster_limit (omega arith))
    ∙ past (all_below w spare_column spare_count 1) _ (sym c.all_below.ensures ∙ c.if-not-all_below.false)

pub returns : goal.returns
returns c =
    let w = c.args.w.now in
    let e = c.clusters_right.ensures ∙ ap (clusters_right w) c.cluster_count-n.ensures in
    c.attributes_right.ensures
    ∙ ap₂ (attributes_right w) c.cluster_count-n.ensures c.attribute_count-m.ensures
    ∙ past _ _ (sym e ∙ c.if-not-clusters_right.false)
    ∙ past _ _ (le-leb (get_or w attribute_count_word 0) attribute_limit (omega arith))
    ∙ past _ _ (le-leb (get_or w cluster_count_word 0) cluster_limit (omega arith))
    ∙ past (all_below w spare_column spare_count 1) _ (sym c.all_below.ensures ∙ c.if-not-all_below.false)
