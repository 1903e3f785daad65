use mathlib.Core.Path.{◌≡◌, sym, ap, ◌∙◌}
use native.Mathlib.Omega.{arith}
use mir.Syntax.{w64}
use mir.ValLaws.{to_z-of_z}
use Rattle.tlv_reader.specs.Octet.{number_width}
use Rattle.tlv_writer.specs.Width.{least_signed_width, twos, width_code}
use Rattle.tlv_writer.specs.Element.{signed_kind}
use Rattle.tlv_writer.proofs.Widths.{code-width, signed-is-width}
use Rattle.tlv_writer.proofs.Octets.{head-signed, length-head, length-signed}
use Rattle.tlv_writer.proofs.put_signed.Goals as goal
use Rattle.tlv_writer.proofs.put_signed.Goals.{After-bits_of, After-signed_width-w, After-width_code-kind}

width_is : (c : After-signed_width-w) → c.signed_width-w.result ≡ least_signed_width c.args.z
width_is c =
    c.signed_width-w.ensures.value ∙ ap least_signed_width (to_z-of_z w64 c.args.z c.ranges.z)

kind-is : (c : After-width_code-kind) → c.width_code-kind.result ≡ signed_kind c.args.z
kind-is c = c.width_code-kind.ensures.value ∙ ap width_code ((c.signed_width-w.ensures.value ∙ ap least_signed_width (to_z-of_z w64 c.args.z c.ranges.z)))

bits_are : (c : After-bits_of) → c.bits_of.result ≡ twos 8 c.args.z
bits_are c =
    c.bits_of.ensures ∙ ap (twos 8) (to_z-of_z w64 c.args.z c.ranges.z)

pub put_numbered-requires : goal.put_numbered-requires
put_numbered-requires c =
    let w = width_is (goal.at.put_numbered-requires c).After-signed_width-w in
    let k : c.signed_width-w.result ≡ number_width c.width_code-kind.result = rw (kind-is (goal.at.put_numbered-requires c).After-width_code-kind, w) (sym (code-width (signed-is-width c.args.z)).0) in
    (omega arith, (k, rw length-head (omega (arith, c.requires, k, w, length-signed c.args.tag c.args.z))))

pub returns : goal.returns
returns c =
    rw (kind-is (goal.at.returns c).After-width_code-kind, bits_are (goal.at.returns c).After-bits_of, head-signed c.args.tag c.args.z c.ranges.z.sfits) at c.put_numbered.ensures
