use Prim.Native.Nat.{◌+◌, ◌≤◌}
use native.Mathlib.Nat.{add-sub_cancel_left}
use native.Mathlib.Omega.{arith}
use lib.ListN.{length, drop, length-take, length-drop}
use mir.Syntax.{w64}
use mir.ValLaws.{to_z-of_z}
use Rattle.tlv_writer.specs.Element.{datum_octets}
use Rattle.tlv_writer.proofs.Octets.{length-null, length-boolean}
use Rattle.tlv_writer.proofs.lengths.value_len.Goals as goal
use Rattle.tlv_writer.proofs.lengths.value_len.Goals.{In-Text}

in-page : (c : In-Text) → c.in-Text.start + c.in-Text.len ≤ length c.args.page.now
in-page c = rw c.in-Text.is at c.requires

pub overflow_add-end : goal.overflow_add-end
overflow_add-end c = omega (arith, in-page (goal.at.overflow_add-end c).In-Text)

pub slice_bounds-text_len-end : goal.slice_bounds-text_len-end
slice_bounds-text_len-end c = omega (arith, in-page (goal.at.slice_bounds-text_len-end c).In-Text)

pub returns-in-Null : goal.returns-in-Null
unfolding datum_octets
returns-in-Null c = rw c.in-Null.is (omega (arith, length-null c.args.tag))

pub returns-in-Boolean : goal.returns-in-Boolean
unfolding datum_octets
returns-in-Boolean c =
    rw c.in-Boolean.is
    (omega (arith, length-boolean c.args.tag c.in-Boolean.field-0))

pub returns-in-Unsigned : goal.returns-in-Unsigned
unfolding datum_octets
returns-in-Unsigned c = rw c.in-Unsigned.is (omega (arith, c.unsigned_len.ensures))

pub returns-in-Signed : goal.returns-in-Signed
unfolding datum_octets
returns-in-Signed c =
    let e = to_z-of_z w64 c.in-Signed.z (record { sfits = omega arith }) in
    rw c.in-Signed.is (omega (arith, rw e at c.signed_len.ensures.value))

pub returns-in-Float : goal.returns-in-Float
unfolding datum_octets
returns-in-Float c = rw c.in-Float.is (omega (arith, c.float_len.ensures))

pub returns-in-Text : goal.returns-in-Text
unfolding datum_octets
returns-in-Text c =
    let v = c.in-Text in
    let page = c.args.page.now in
    let h = rw add-sub_cancel_left at c.text_len.ensures in
    rw v.is (record { value = h.value; small = omega (arith, h.small, length-take v.len (drop v.start page), length-drop v.start page) })

pub returns-in-Other : goal.returns-in-Other
unfolding datum_octets
returns-in-Other c = rw c.in-Other.is (omega arith)
