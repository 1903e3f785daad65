use Prim.Native.Nat.{◌≤◌, ◌-◌}
use lib.ListN.{length}
use Rattle.base_utf8.proofs.Bytewise.{FourFrom}
use Rattle.base_utf8.proofs.up_to_four.Given as goal

abbrev pub invariant-loop-i : goal.invariant-loop-i
invariant-loop-i l = FourFrom l.s l.i l.good
