use native.Mathlib.Omega.{arith}
use Rattle.tlv_writer.proofs.Octets.{length-unsigned}
use Rattle.tlv_writer.proofs.lengths.unsigned_len.Goals as goal

pub returns : goal.returns
returns c = omega (arith, length-unsigned c.args.tag c.args.v)
