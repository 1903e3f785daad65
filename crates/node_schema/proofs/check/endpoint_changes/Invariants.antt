use Rattle.std.proofs.Common.{◌≡◌, ◌+◌, ◌-◌, ◌≤◌}
use Rattle.node_schema.specs.Rows.{cluster_row, rows_from}
use Rattle.node_schema.specs.Check.{changes as changes_of, endpoint_changes}
use Rattle.node_schema.proofs.check.endpoint_changes.Given as goal

abbrev pub invariant-loop-i : goal.invariant-loop-i
invariant-loop-i l = (l.changes ≤ l.i) × (endpoint_changes l.w l.n ≡ l.changes + changes_of l.last (rows_from (λ k. (cluster_row l.w k).endpoint) (l.n - l.i) l.i))
