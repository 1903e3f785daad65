use mathlib.Core.Path.{◌≡◌}
use Prim.Native.Nat.{◌+◌, ◌-◌}
use lib.ListN.{length}
use Rattle.base_octets.specs.Number.{bytes_of}
use Rattle.base_octets.specs.Store.{store}
use Rattle.base_octets.proofs.put_long.Given as goal

abbrev pub invariant-loop-i : goal.invariant-loop-i
invariant-loop-i l = (length l.b ≡ length l.initial.b) × (store l.initial.b l.at (bytes_of l.w l.v) ≡ store l.b (l.at + l.i) (bytes_of (l.w - l.i) l.x))
