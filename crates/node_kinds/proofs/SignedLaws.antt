-- A signed number of 64 bits comes back from its two's complement.
use mathlib.Core.Path.{◌≡◌}
use Prim.Native.Nat.{◌<◌}
use lib.IntN.{ℤ}
use lib.Signed.{mag}
use mir.Syntax.{w64}
use mir.Val.{to_z, of_z}
use mir.ValLaws.{to_z-of_z}

pub signed_back : (z : ℤ) → mag z < 0x8000_0000_0000_0000 → to_z w64 (of_z w64 z) ≡ z
signed_back z h = to_z-of_z w64 z (record { sfits = h })
