use mathlib.Core.Path.{◌≡◌}
use lib.ListN.{length}
use Rattle.base_bounds.specs.Bounds.{cluster_limit}
use Rattle.node_schema.specs.Rows.{count_of_clusters}
use Rattle.node_access.proofs.SearchLaws.{up_to}
use Rattle.node_access.proofs.table.granted_by.Given as goal

abbrev pub invariant-loop-i : goal.invariant-loop-i
invariant-loop-i l = (l.n ≡ count_of_clusters l.w) × (length l.initial.level ≡ cluster_limit) × (l.level ≡ up_to (record { level = l.initial.level }) l.e l.subject l.w l.i)
