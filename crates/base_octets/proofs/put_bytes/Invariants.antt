use mathlib.Core.Path.{◌≡◌}
use Prim.Native.Nat.{◌+◌}
use lib.ListN.{length, drop}
use Rattle.base_octets.specs.Store.{store}
use Rattle.base_octets.proofs.put_bytes.Given as goal

abbrev pub invariant-loop-i : goal.invariant-loop-i
invariant-loop-i l = (length l.b ≡ length l.initial.b) × (store l.initial.b l.at l.src ≡ store l.b (l.at + l.i) (drop l.i l.src))
