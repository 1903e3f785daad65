use Rattle.std.proofs.Common.{◌≡◌}
use Rattle.node_access.proofs.SearchLaws.{reached}
use Rattle.node_access.proofs.table.search.Given as goal

abbrev pub invariant-loop-i : goal.invariant-loop-i
invariant-loop-i l = l.access ≡ reached l.count l.table l.subject l.w l.i
