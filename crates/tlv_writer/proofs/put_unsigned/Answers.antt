use mathlib.Core.Path.{◌≡◌, sym}
use Prim.Native.Nat.{◌+◌}
use native.Mathlib.Omega.{arith}
use Rattle.tlv_reader.specs.Octet.{number_width}
use Rattle.tlv_writer.specs.Element.{unsigned_octets}
use Rattle.tlv_writer.proofs.Widths.{code-width, unsigned-is-width}
use Rattle.tlv_writer.proofs.Octets.{length-head, length-unsigned}
use Rattle.tlv_writer.proofs.put_unsigned.Goals as goal
use Rattle.tlv_writer.proofs.put_unsigned.Goals.{After-width_code-kind}

width_is : (c : After-width_code-kind) → c.unsigned_width-w.result ≡ number_width (4 + c.width_code-kind.result)
width_is c =
    rw (c.width_code-kind.ensures.value, c.unsigned_width-w.ensures.value)
    (sym (code-width (unsigned-is-width c.args.v)).1.0)

pub put_numbered-requires : goal.put_numbered-requires
put_numbered-requires c =
    let k = width_is (goal.at.put_numbered-requires c).After-width_code-kind in
    (omega arith, (k, rw length-head (omega (arith, c.requires, k, c.unsigned_width-w.ensures.value, length-unsigned c.args.tag c.args.v))))

pub returns : goal.returns
unfolding unsigned_octets
returns c =
    rw (c.width_code-kind.ensures.value, c.unsigned_width-w.ensures.value) at c.put_numbered.ensures
