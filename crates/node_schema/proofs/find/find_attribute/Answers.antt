use Rattle.std.proofs.Common.{ℕ, ◌+◌, ◌*◌, ap, ◌∙◌, rules, le-ltb, lt-ltb}
use Rattle.node_schema.specs.Layout.{half, key_column}
use Rattle.node_schema.specs.Rows.{count_of_attributes}
use Rattle.node_schema.specs.Find.{find_word}
use Rattle.node_schema.proofs.OrderLaws.{word-search}
use Rattle.node_schema.proofs.find.find_attribute.Goals as goal

pub returns-then-cluster_index-ge-CLUSTERS : goal.returns-then-cluster_index-ge-CLUSTERS
returns-then-cluster_index-ge-CLUSTERS c = rw (le-ltb _ _ c.if-cluster_index-ge-CLUSTERS.true)

pub returns : goal.returns
returns c =
    let a = c.args in
    rw (lt-ltb _ _ c.if-cluster_index-ge-CLUSTERS.false)
    (c.find_word.ensures
    ∙ ap (λ (n : ℕ). find_word a.w.now key_column n (a.cluster_index * half + a.attribute)) c.attribute_count-n.ensures
    ∙ word-search a.w.now key_column (count_of_attributes a.w.now) a.cluster_index a.attribute (search rules))
