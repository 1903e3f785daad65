use Rattle.std.proofs.Common.{ℕ, ◌+◌, ◌*◌, ap, ◌∙◌, rules}
use Rattle.node_schema.specs.Layout.{half, path_column}
use Rattle.node_schema.specs.Rows.{count_of_clusters}
use Rattle.node_schema.specs.Find.{find_word}
use Rattle.node_schema.proofs.OrderLaws.{word-search}
use Rattle.node_schema.proofs.find.find_cluster.Goals as goal

pub returns : goal.returns
returns c =
    let a = c.args in
    c.find_word.ensures
    ∙ ap (λ (n : ℕ). find_word a.w.now path_column n (a.endpoint * half + a.cluster)) c.cluster_count-n.ensures
    ∙ word-search a.w.now path_column (count_of_clusters a.w.now) a.endpoint a.cluster (search rules)
