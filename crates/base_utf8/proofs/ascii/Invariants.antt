use Prim.Native.Nat.{◌*◌, ◌≤◌, ◌-◌}
use lib.ListN.{length}
use Rattle.base_utf8.proofs.Quarters.{Sides}
use Rattle.base_utf8.proofs.ascii.Given as goal

abbrev pub invariant-loop-i : goal.invariant-loop-i
invariant-loop-i l = (4 * l.side ≤ length l.s) × Sides l.s l.side l.bits l.i
