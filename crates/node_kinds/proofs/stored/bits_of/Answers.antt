use mathlib.Core.Path.{◌≡◌, refl, sym, ap, subst, ◌∙◌}
use mathlib.Core.Bool.{true, false}
use Prim.Native.Nat.{ℕ, ◌-◌, ◌<◌}
use native.Mathlib.Omega.{arith}
use borrow.Author.Tests.{ltb-true}
use lib.Dec.{T}
use lib.IntN.{ℤ, pos, negsuc, nat_abs}
use lib.Signed.{lt_z, non_neg, mag}
use mir.Syntax.{w64}
use mir.Val.{to_z, of_z, Fits, SFits}
use mir.ValLaws.{to_z-of_z, to_z_pos, of_z_fits}
use Rattle.node_kinds.proofs.stored.bits_of.Goals as goal
use Rattle.node_kinds.proofs.stored.bits_of.Goals.{Else-z-lt0, Then-z-lt0}

-- Two's complement of a signed number: below zero its bits turned over are its magnitude, from zero on it is its bits.
turned : (z : ℤ) → SFits w64 z → lt_z z (pos 0) ≡ true → to_z w64 (18446744073709551615 - of_z w64 z) ≡ pos (mag z)
turned (pos n) f t = let h : n < 0 = ltb-true n 0 t in absurd (omega arith)
turned (negsuc k) f t =
    let h : k < 9223372036854775808 = f.sfits in
    let q : 18446744073709551615 - of_z w64 (negsuc k) ≡ k = omega arith in
    ap (to_z w64) q ∙ to_z_pos w64 k h

back : (z : ℤ) → lt_z z (pos 0) ≡ true → 18446744073709551615 - mag z ≡ of_z w64 z
back (pos n) t = let h : n < 0 = ltb-true n 0 t in absurd (omega arith)
back (negsuc k) t = omega arith

at-least-zero : (z : ℤ) → lt_z z (pos 0) ≡ false → T (non_neg z) × (nat_abs z ≡ of_z w64 z)
at-least-zero (pos n) t = (tt, refl)
at-least-zero (negsuc k) t = let e : ◌≡◌ {A = ℕ} 0 1 = cc in absurd (omega arith)

below : (c : Then-z-lt0) → lt_z c.args.z (pos 0) ≡ true
below c = simp (to_z-of_z w64 c.args.z c.ranges.z) at c.if-z-lt0.true

above : (c : Else-z-lt0) → lt_z c.args.z (pos 0) ≡ false
above c = simp (to_z-of_z w64 c.args.z c.ranges.z) at c.if-z-lt0.false

pub overflow_cast-result : goal.overflow_cast-result
overflow_cast-result c =
    let m : mag c.args.z < 9223372036854775808 = c.ranges.z.sfits in
    rw (turned c.args.z c.ranges.z (below (goal.at.overflow_cast-result c).Then-z-lt0)) (tt, record { fits = omega arith })

pub overflow_sub-result : goal.overflow_sub-result
overflow_sub-result c =
    let m : mag c.args.z < 9223372036854775808 = c.ranges.z.sfits in
    rw (turned c.args.z c.ranges.z (below (goal.at.overflow_sub-result c).Then-z-lt0)) (omega arith)

pub overflow_cast-result-else-z-lt0 : goal.overflow_cast-result-else-z-lt0
overflow_cast-result-else-z-lt0 c =
    let z = c.args.z in
    let u = at-least-zero z (above (goal.at.overflow_cast-result-else-z-lt0 c).Else-z-lt0) in
    rw (to_z-of_z w64 z c.ranges.z) (u.0, subst (Fits w64) (sym u.1) (of_z_fits w64 z c.ranges.z))

pub returns-then-z-lt0 : goal.returns-then-z-lt0
returns-then-z-lt0 c = rw (turned c.args.z c.ranges.z (below (goal.at.returns-then-z-lt0 c).Then-z-lt0)) (back c.args.z (below (goal.at.returns-then-z-lt0 c).Then-z-lt0))

pub returns-else-z-lt0 : goal.returns-else-z-lt0
returns-else-z-lt0 c = rw (to_z-of_z w64 c.args.z c.ranges.z) (at-least-zero c.args.z (above (goal.at.returns-else-z-lt0 c).Else-z-lt0)).1
