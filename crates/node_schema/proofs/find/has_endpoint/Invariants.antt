use Rattle.std.proofs.Common.{◌≡◌, ◌-◌, eqb}
use Rattle.node_schema.specs.Rows.{cluster_row, count_of_clusters}
use Rattle.node_schema.specs.Search.{first}
use Rattle.node_schema.proofs.find.has_endpoint.Given as goal

abbrev pub invariant-loop-i : goal.invariant-loop-i
invariant-loop-i l = (l.n ≡ count_of_clusters l.w) × (first (λ k. eqb (cluster_row l.w k).endpoint l.endpoint) (count_of_clusters l.w) 0 ≡ first (λ k. eqb (cluster_row l.w k).endpoint l.endpoint) (count_of_clusters l.w - l.i) l.i)
