use native.Mathlib.Omega.{arith}
use mir.Syntax.{w64}
use mir.ValLaws.{to_z-of_z}
use Rattle.tlv_writer.proofs.Octets.{length-signed}
use Rattle.tlv_writer.proofs.lengths.signed_len.Goals as goal

pub returns : goal.returns
returns c =
    let z = c.args.z in
    let e = simp (to_z-of_z w64 z c.ranges.z) at c.signed_width.ensures.value in
    omega (arith, length-signed c.args.tag z)
