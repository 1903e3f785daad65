use Rattle.std.proofs.Common.{◌≡◌, ◌≤◌, true}
use Rattle.node_schema.specs.Check.{rank as rank_of, all_ranks}
use Rattle.node_schema.proofs.check.all_ranks.Given as goal

abbrev pub invariant-loop-i : goal.invariant-loop-i
invariant-loop-i l = (l.rank ≤ l.i) × (l.rank ≡ rank_of l.w l.i) × (all_ranks l.w l.i ≡ true)
