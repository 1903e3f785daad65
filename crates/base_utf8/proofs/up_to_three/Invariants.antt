use Prim.Native.Nat.{◌≤◌, ◌-◌}
use lib.ListN.{length}
use Rattle.base_utf8.proofs.Shorter.{ThreeFrom}
use Rattle.base_utf8.proofs.up_to_three.Given as goal

abbrev pub invariant-loop-i : goal.invariant-loop-i
invariant-loop-i l = ThreeFrom l.s l.i l.good
