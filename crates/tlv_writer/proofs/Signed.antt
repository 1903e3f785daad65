-- A signed number of the machine and its magnitude: what a test of its sign tells.
use mathlib.Core.Path.{◌≡◌, refl, ap, ◌∙◌}
use mathlib.Core.Bool.{true, false}
use Prim.Native.Nat.{ℕ, ◌-◌, ◌<◌}
use native.Mathlib.Omega.{arith}
use borrow.Author.Tests.{ltb-true}
use lib.Dec.{T}
use lib.IntN.{ℤ, pos, negsuc, nat_abs}
use lib.Signed.{mag, lt_z, non_neg}
use mir.Syntax.{w64}
use mir.Val.{to_z, of_z, SFits}
use mir.ValLaws.{to_z_pos}
use Rattle.tlv_writer.specs.Width.{twos}

-- below 0, the bits turned over are the magnitude
pub flipped : (z : ℤ) → SFits w64 z → lt_z z (pos 0) ≡ true → to_z w64 (18446744073709551615 - of_z w64 z) ≡ pos (mag z)
flipped (pos n) f t = let h : n < 0 = ltb-true n 0 t in absurd (omega arith)
flipped (negsuc k) f t =
    let h : k < 9223372036854775808 = f.sfits in
    let q : 18446744073709551615 - of_z w64 (negsuc k) ≡ k = omega arith in
    ap (to_z w64) q ∙ to_z_pos w64 k h

pub twos-below : (z : ℤ) → lt_z z (pos 0) ≡ true → 18446744073709551615 - mag z ≡ twos 8 z
unfolding twos
twos-below (pos n) t = let h : n < 0 = ltb-true n 0 t in absurd (omega arith)
twos-below (negsuc k) t = omega arith

-- from 0 on, the number is its magnitude
pub above : (z : ℤ) → lt_z z (pos 0) ≡ false → T (non_neg z) × ((nat_abs z ≡ mag z) × (mag z ≡ twos 8 z))
unfolding twos
above (pos n) t = (tt, (refl, refl))
above (negsuc k) t = let e : ◌≡◌ {A = ℕ} 0 1 = cc in absurd (omega arith)
