use mathlib.Core.Path.{◌≡◌, sym}
use Prim.Native.Nat.{◌+◌}
use native.Mathlib.Omega.{arith}
use lib.ListN.{length}
use Rattle.base_octets.proofs.StoreLaws.{then, same_length as kept-length}
use Rattle.tlv_reader.specs.Octet.{number_width}
use Rattle.tlv_writer.specs.Element.{text_octets}
use Rattle.tlv_writer.proofs.Widths.{code-width, unsigned-is-width}
use Rattle.tlv_writer.proofs.Octets.{length-head, length-text}
use Rattle.tlv_writer.proofs.put_text.Goals as goal
use Rattle.tlv_writer.proofs.put_text.Goals.{After-width_code-kind}

width_is : (c : After-width_code-kind) → c.length_width-w.result ≡ number_width (12 + c.width_code-kind.result)
width_is c =
    rw (c.width_code-kind.ensures.value, c.length_width-w.ensures.value)
    (sym (code-width (unsigned-is-width (length c.args.text.now))).1.1)

pub put_numbered-p-requires : goal.put_numbered-p-requires
put_numbered-p-requires c =
    let k = width_is (goal.at.put_numbered-p-requires c).After-width_code-kind in
    (omega arith, (k, rw length-head (omega (arith, c.requires, k, c.length_width-w.ensures.value, length-text c.args.tag c.args.text.now))))

pub put_bytes-requires : goal.put_bytes-requires
put_bytes-requires c =
    let s = c.put_numbered-p.ensures in
    omega (arith, c.requires, width_is (goal.at.put_bytes-requires c).After-width_code-kind, c.length_width-w.ensures.value, length-text c.args.tag c.args.text.now, rw length-head at s.place, kept-length s)

pub returns : goal.returns
unfolding text_octets
returns c =
    then
    (rw (c.width_code-kind.ensures.value, c.length_width-w.ensures.value) at c.put_numbered-p.ensures)
    c.put_bytes.ensures
