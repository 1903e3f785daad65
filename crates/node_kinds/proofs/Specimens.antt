-- The specimens (RULES 8) that speak of values: S6, S7, S9, and the least signed number.
use mathlib.Core.Path.{◌≡◌, refl, ap}
use mathlib.Core.List.{List}
use mathlib.Core.Bool.{Bool, true, false, ◌&&◌}
use Prim.Native.Nat.{ℕ}
use lib.IntN.{pos, negsuc}
use lib.Dec.{leb}
use lib.ListN.{length}
use lib.Ieee.{of_bits, nan_bits, le}
use Rattle.base_bounds.specs.Bounds.{text_bytes_limit}
use Rattle.tlv_reader.specs.declared.Value.TheVariants.{Signed}
use Rattle.tlv_reader.specs.Value.{text, float, signed}
use Rattle.base_utf8.specs.WellFormed.{well_formed}
use Rattle.node_kinds.specs.declared.Kind.{Kind}
use Rattle.node_kinds.specs.declared.Kind.TheVariants as Kinds
use Rattle.node_kinds.specs.Float.{range_of, in_range, range_ok}
use Rattle.node_kinds.specs.Limits.{status_code, limited, against, judged}
use Rattle.node_kinds.specs.Stored.{word_of, value_from, next_version}

-- S6: 0.0 to 100.0
abbrev percent : Kind
percent = Kinds.Float (range_of 0x0000_0000 0x42C8_0000 0x0000_0000)

pub percent-ok : range_ok 0x0000_0000 0x42C8_0000 0x0000_0000 ≡ true
unfolding range_ok of_bits le
percent-ok = refl

module _ (nullable : Bool) where
  pub negative-zero : status_code (judged percent nullable (float 0x8000_0000)) ≡ 0x00
  unfolding status_code judged range_of in_range of_bits nan_bits le
  negative-zero = refl

  pub not-a-number : status_code (judged percent nullable (float 0x7FC0_0000)) ≡ 0x87
  unfolding status_code judged range_of in_range of_bits nan_bits le
  not-a-number = refl

  pub highest : status_code (judged percent nullable (float 0x42C8_0000)) ≡ 0x00
  unfolding status_code judged range_of in_range of_bits nan_bits le
  highest = refl

  pub above-highest : status_code (judged percent nullable (float 0x42C8_0001)) ≡ 0x87
  unfolding status_code judged range_of in_range of_bits nan_bits le
  above-highest = refl

  -- S7
  pub text-200 : (b : List ℕ) → length b ≡ 200 → well_formed b ≡ true → status_code (judged Kinds.Text nullable (text b)) ≡ 0x00
  unfolding status_code judged against
  text-200 b n w =
      let h : (leb (length b) text_bytes_limit && well_formed b) ≡ true = rw n w in
      ap (λ (t : Bool). status_code (limited t)) h

  pub text-201 : (b : List ℕ) → length b ≡ 201 → status_code (judged Kinds.Text nullable (text b)) ≡ 0x87
  unfolding status_code judged against
  text-201 b n = rw n

  -- RULES 2.10: the least number of 64 bits is a value
  pub least : status_code (judged (Kinds.Signed (negsuc 0x7FFF_FFFF_FFFF_FFFF) (pos 0x7FFF_FFFF_FFFF_FFFF)) nullable (signed (negsuc 0x7FFF_FFFF_FFFF_FFFF))) ≡ 0x00
  unfolding status_code judged
  least = refl

pub least-back : value_from (Kinds.Signed (negsuc 0x7FFF_FFFF_FFFF_FFFF) (pos 0x7FFF_FFFF_FFFF_FFFF)) (word_of (Signed (negsuc 0x7FFF_FFFF_FFFF_FFFF))) false 0 ≡ Signed (negsuc 0x7FFF_FFFF_FFFF_FFFF)
unfolding value_from word_of
least-back = refl

-- S9
pub version-wraps : next_version 0xFFFF_FFFF ≡ 0
unfolding next_version
version-wraps = refl
