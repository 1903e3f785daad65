use mathlib.Core.Path.{◌≡◌}
use Rattle.base_bounds.specs.Bounds.{cluster_limit}
use Rattle.node_schema.specs.Rows.{cluster_row, count_of_clusters, filled}
use Rattle.server_values.proofs.fresh.first_versions.Given as goal

abbrev pub invariant-loop-i : goal.invariant-loop-i
invariant-loop-i l = (l.n ≡ count_of_clusters l.w) × (l.versions ≡ filled 0 (λ k. (cluster_row l.w k).version) cluster_limit l.i)
