use mathlib.Core.Path.{◌≡◌, refl}
use Prim.Native.Nat.{◌-◌}
use native.Mathlib.Omega.{arith}
use lib.Dec.{T}
use lib.IntN.{pos, nat_abs}
use lib.Signed.{mag, non_neg}
use mir.Syntax.{w64}
use mir.Val.{to_z, of_z}
use mir.ValLaws.{to_z-of_z}
use Rattle.tlv_writer.specs.Width.{twos}
use Rattle.tlv_writer.proofs.Signed.{flipped, above}
use Rattle.tlv_writer.proofs.width.magnitude.Goals as goal
use Rattle.tlv_writer.proofs.width.magnitude.Goals.{Else-z-lt0, Then-z-lt0}

turned : (c : Then-z-lt0) → to_z w64 (18446744073709551615 - of_z w64 c.args.z) ≡ pos (mag c.args.z)
turned c =
    flipped c.args.z c.ranges.z (simp (to_z-of_z w64 c.args.z c.ranges.z) at c.if-z-lt0.true)

kept : (c : Else-z-lt0) → T (non_neg c.args.z) × ((nat_abs c.args.z ≡ mag c.args.z) × (mag c.args.z ≡ twos 8 c.args.z))
kept c = above c.args.z (simp (to_z-of_z w64 c.args.z c.ranges.z) at c.if-z-lt0.false)

pub overflow_cast-result : goal.overflow_cast-result
overflow_cast-result c = rw (turned (goal.at.overflow_cast-result c).Then-z-lt0) (tt, record { fits = omega (arith, c.ranges.z.sfits) })

pub overflow_cast-result-else-z-lt0 : goal.overflow_cast-result-else-z-lt0
overflow_cast-result-else-z-lt0 c =
    rw (to_z-of_z w64 c.args.z c.ranges.z) ((kept (goal.at.overflow_cast-result-else-z-lt0 c).Else-z-lt0).0, record { fits = omega (arith, (kept (goal.at.overflow_cast-result-else-z-lt0 c).Else-z-lt0).1.0, c.ranges.z.sfits) })

pub returns-then-z-lt0 : goal.returns-then-z-lt0
returns-then-z-lt0 c = rw (turned (goal.at.returns-then-z-lt0 c).Then-z-lt0) refl

pub returns-else-z-lt0 : goal.returns-else-z-lt0
returns-else-z-lt0 c = rw (to_z-of_z w64 c.args.z c.ranges.z) (kept (goal.at.returns-else-z-lt0 c).Else-z-lt0).1.0
