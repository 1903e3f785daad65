use native.Mathlib.Omega.{arith}
use Rattle.tlv_writer.proofs.Octets.{length_float}
use Rattle.tlv_writer.proofs.lengths.float_len.Goals as goal

pub returns : goal.returns
returns c = omega (arith, length_float c.args.tag c.args.bits)
