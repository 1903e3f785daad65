use mathlib.Core.Path.{◌≡◌}
use mathlib.Core.Bool.{false}
use Rattle.base_bounds.specs.Bounds.{cluster_limit}
use Rattle.node_schema.specs.Rows.{count_of_clusters, filled}
use Rattle.server_selection.proofs.FilterLaws.{skip_at}
use Rattle.server_selection.proofs.filters.skipped.Given as goal

abbrev pub invariant-loop-k : goal.invariant-loop-k
invariant-loop-k l =
    (l.count ≡ count_of_clusters l.w) × (l.skip ≡ filled false (skip_at l.row l.versions) cluster_limit l.k)
