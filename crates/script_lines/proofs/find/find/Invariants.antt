use Rattle.std.proofs.Common.{◌≡◌, ◌+◌}
use Rattle.script_lines.specs.Find.{index_of, slice}
use Rattle.script_lines.proofs.find.find.Given as goal

abbrev pub invariant-loop-i : goal.invariant-loop-i
invariant-loop-i l = l.at + index_of l.b (slice l.at l.end l.s) ≡ l.i + index_of l.b (slice l.i l.end l.s)
