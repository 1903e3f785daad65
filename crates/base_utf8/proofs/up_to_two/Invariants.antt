use Prim.Native.Nat.{◌≤◌, ◌-◌}
use lib.ListN.{length}
use Rattle.base_utf8.proofs.Shorter.{TwoFrom}
use Rattle.base_utf8.proofs.up_to_two.Given as goal

abbrev pub invariant-loop-i : goal.invariant-loop-i
invariant-loop-i l = TwoFrom l.s l.i l.good
