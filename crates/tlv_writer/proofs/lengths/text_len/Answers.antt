use native.Mathlib.Omega.{arith}
use Rattle.tlv_writer.proofs.Octets.{length-text}
use Rattle.tlv_writer.proofs.lengths.text_len.Goals as goal

pub returns : goal.returns
returns c = omega (arith, length-text c.args.tag c.args.text.now)
