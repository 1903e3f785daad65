use mathlib.Core.Path.{◌≡◌, refl}
use Prim.Native.Nat.{◌+◌, ◌≤◌}
use lib.ListN.{length}
use native.Mathlib.Nat.{add-sub_cancel_left}
use mir.Syntax.{w64}
use mir.Val.{to_z, of_z}
use mir.ValLaws.{to_z-of_z}
use Rattle.base_octets.specs.Store.{store}
use native.Mathlib.Omega.{arith}
use Rattle.tlv_writer.specs.Element.{datum_octets}
use Rattle.tlv_writer.proofs.put_value.Goals as goal
use Rattle.tlv_writer.proofs.put_value.Goals.{In-Signed, In-Text}

-- a signed value is the number that its bits are
signed-kept : (c : In-Signed) → to_z w64 (of_z w64 c.in-Signed.z) ≡ c.in-Signed.z
signed-kept c = to_z-of_z w64 c.in-Signed.z (record { sfits = omega arith })

in-page : (c : In-Text) → c.in-Text.start + c.in-Text.len ≤ length c.args.page.now
in-page c = rw c.in-Text.is at c.requires.0

pub put_null-requires : goal.put_null-requires
unfolding datum_octets
put_null-requires c = rw c.in-Null.is at c.requires.1

pub put_boolean-requires : goal.put_boolean-requires
unfolding datum_octets
put_boolean-requires c = rw c.in-Boolean.is at c.requires.1

pub put_unsigned-requires : goal.put_unsigned-requires
unfolding datum_octets
put_unsigned-requires c = rw c.in-Unsigned.is at c.requires.1

pub put_signed-requires : goal.put_signed-requires
unfolding datum_octets
put_signed-requires c =
    rw (signed-kept (goal.at.put_signed-requires c).In-Signed) (rw c.in-Signed.is at c.requires.1)

pub put_float-requires : goal.put_float-requires
unfolding datum_octets
put_float-requires c = rw c.in-Float.is at c.requires.1

pub overflow_add-end : goal.overflow_add-end
overflow_add-end c = omega (arith, in-page (goal.at.overflow_add-end c).In-Text)

pub slice_bounds-put_text-end : goal.slice_bounds-put_text-end
slice_bounds-put_text-end c = omega (arith, in-page (goal.at.slice_bounds-put_text-end c).In-Text)

pub put_text-requires : goal.put_text-requires
unfolding datum_octets
put_text-requires c =
    rw add-sub_cancel_left (rw c.in-Text.is at c.requires.1)

pub returns-in-Null : goal.returns-in-Null
unfolding datum_octets
returns-in-Null c = rw c.in-Null.is c.put_null.ensures

pub returns-in-Boolean : goal.returns-in-Boolean
unfolding datum_octets
returns-in-Boolean c = rw c.in-Boolean.is c.put_boolean.ensures

pub returns-in-Unsigned : goal.returns-in-Unsigned
unfolding datum_octets
returns-in-Unsigned c = rw c.in-Unsigned.is c.put_unsigned.ensures

pub returns-in-Signed : goal.returns-in-Signed
unfolding datum_octets
returns-in-Signed c = rw c.in-Signed.is (rw (signed-kept (goal.at.returns-in-Signed c).In-Signed) at c.put_signed.ensures)

pub returns-in-Float : goal.returns-in-Float
unfolding datum_octets
returns-in-Float c = rw c.in-Float.is c.put_float.ensures

pub returns-in-Text : goal.returns-in-Text
unfolding datum_octets
returns-in-Text c = rw c.in-Text.is (rw add-sub_cancel_left at c.put_text.ensures)

pub returns-in-Other : goal.returns-in-Other
unfolding datum_octets store
returns-in-Other c = rw c.in-Other.is (record { content = refl; place = omega arith })
