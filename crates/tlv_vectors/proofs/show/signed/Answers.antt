use mathlib.Core.Path.{◌≡◌}
use Prim.Native.Nat.{◌-◌}
use native.Mathlib.Omega.{arith}
use lib.IntN.{pos}
use lib.Signed.{mag}
use mir.Syntax.{w64}
use mir.Val.{to_z, of_z}
use mir.ValLaws.{to_z-of_z}
use Rattle.tlv_writer.proofs.Signed.{flipped, above}
use Rattle.tlv_vectors.proofs.show.signed.Given.{Over}
use Rattle.tlv_vectors.proofs.show.signed.Goals as goal
use Rattle.tlv_vectors.proofs.show.signed.Goals.{Then-z-lt0}

-- below 0, the bits turned over are the magnitude
turned : (g : Over) (c : Then-z-lt0 g) → to_z w64 (18446744073709551615 - of_z w64 c.args.z) ≡ pos (mag c.args.z)
turned g c =
    flipped c.args.z c.ranges.z (simp (to_z-of_z w64 c.args.z c.ranges.z) at c.if-z-lt0.true)

pub overflow_cast-z : goal.overflow_cast-z
overflow_cast-z g c = rw (turned g (goal.at.overflow_cast-z g c).Then-z-lt0) (tt, record { fits = omega (arith, c.ranges.z.sfits) })

pub overflow_add-z : goal.overflow_add-z
overflow_add-z g c = rw (turned g (goal.at.overflow_add-z g c).Then-z-lt0) (record { fits = omega (arith, c.ranges.z.sfits) })

pub overflow_cast-z-else-z-lt0 : goal.overflow_cast-z-else-z-lt0
overflow_cast-z-else-z-lt0 g c =
    let k = above c.args.z (simp (to_z-of_z w64 c.args.z c.ranges.z) at c.if-z-lt0.false) in
    rw (to_z-of_z w64 c.args.z c.ranges.z) (k.0, record { fits = omega (arith, k.1.0, c.ranges.z.sfits) })
