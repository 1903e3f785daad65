-- What a server holds can be written in a report, and a cache can take it.
use mathlib.Core.Path.{◌≡◌, refl, ◌∙◌}
use mathlib.Core.Bool.{Bool, true, false}
use mathlib.Core.List.{List}
use Prim.Native.Nat.{ℕ, zero, suc, ◌%◌, ◌^◌, ◌≤◌, ◌<◌}
use native.Mathlib.Omega.{arith}
use borrow.Author.Tests.{leb-true, ltb-true, ltb-false}
use lib.Dec.{eqb, leb, ltb}
use lib.ListN.{length, get_or}
use lib.Signed.{mag}
use mir.Syntax.{w64}
use mir.Val.{to_z}
use Rattle.base_bounds.specs.Bounds.{text_bytes_limit}
use Rattle.base_utf8.specs.WellFormed as utf8
use Rattle.tlv_writer.specs.Meaning.{Writable}
use Rattle.im_writer.specs.Spelling.{primitive_d}
use Rattle.node_kinds.specs.declared.Kind.{Kind}
use Rattle.node_kinds.specs.declared.Kind.TheVariants as Kinds
use Rattle.node_kinds.specs.Float.{range_of}
use Rattle.node_kinds.specs.Stored.{held}
use Rattle.node_schema.specs.Layout.{half}
use Rattle.node_schema.specs.Rows.{AttributeRow, attribute_row, count_of_attributes}
use Rattle.node_schema.proofs.BoolLaws.{right, by-test}
use Rattle.node_plan.specs.Attributes.{by_code, kind_of}
use Rattle.server_values.specs.declared.Values.{Values}
use Rattle.server_values.specs.Values.{held_datum, datum_at, shown_of}
use Rattle.server_values.specs.Valid.{values_right}
use Rattle.server_values.proofs.ValueLaws.{textual, text-row}
use Rattle.server_values.proofs.ValidLaws.{right-at, limits-at, shown-fits}
use Rattle.proof_trip.specs.Taken.{Takable}

-- a highest value of 64 bits, where a kind's values are unsigned
abbrev HighFits : Kind → Type 0
HighFits Kinds.Boolean = Unit {0}
HighFits (Kinds.Unsigned low high) = high < 2 ^ 64
HighFits (Kinds.Signed low high) = Unit {0}
HighFits (Kinds.Float r) = Unit {0}
HighFits Kinds.Text = Unit {0}

high_fits : (a : AttributeRow) → a.high < 2 ^ 64 → HighFits (kind_of a)
unfolding kind_of
high_fits a h = go a.kind
  where
    go : (code : ℕ) → HighFits (by_code Kinds.Boolean (Kinds.Unsigned a.low a.high) (Kinds.Signed (to_z w64 a.low) (to_z w64 a.high)) (Kinds.Float (range_of (a.low % half) (a.high % half) (a.first % half))) Kinds.Text code)
    go zero = tt
    go (suc zero) = h
    go (suc (suc zero)) = tt
    go (suc (suc (suc zero))) = tt
    go (suc (suc (suc (suc zero)))) = tt
    go (suc (suc (suc (suc (suc code))))) = tt

-- 64 bits read as signed
signed-fits : (n : ℕ) → mag (to_z w64 n) < 2 ^ 63
signed-fits n = by-test (ltb n (2 ^ 63)) (λ t. rw t (omega (arith, ltb-true n (2 ^ 63) t))) (λ t. rw t (omega (arith, ltb-false n (2 ^ 63) t)))

module _ (nullable : Bool) (word : ℕ) (shown : List ℕ) where
  -- a text is short and valid
  abbrev ShownIf : Kind → Bool → Type 0
  ShownIf k is_null = is_null ≡ false → textual k ≡ true → (length shown ≤ text_bytes_limit) × (utf8.well_formed shown ≡ true)

  kind-takable : (k : Kind) (is_null : Bool) → held k nullable word is_null ≡ true → ShownIf k is_null → Takable (held_datum k word is_null shown)
  unfolding held_datum Takable
  kind-takable k true h s = tt
  kind-takable Kinds.Boolean false h s = tt
  kind-takable (Kinds.Unsigned l u) false h s = tt
  kind-takable (Kinds.Signed l u) false h s = tt
  kind-takable (Kinds.Float r) false h s = tt
  kind-takable Kinds.Text false h s = ((s refl refl).1, omega (arith, (s refl refl).0))

  kind-writable : (k : Kind) → HighFits k → (is_null : Bool) → held k nullable word is_null ≡ true → ShownIf k is_null → Writable (primitive_d (held_datum k word is_null shown))
  unfolding held held_datum Writable primitive_d
  kind-writable k f true h s = tt
  kind-writable Kinds.Boolean f false h s = tt
  kind-writable (Kinds.Unsigned l u) f false h s = omega (arith, f, leb-true word u (right (leb l word) _ h))
  kind-writable (Kinds.Signed l u) f false h s = signed-fits word
  kind-writable (Kinds.Float r) f false h s = omega arith
  kind-writable Kinds.Text f false h s = omega (arith, (s refl refl).0)

-- the value of attribute i
module _ (w defaults edits : List ℕ) (v : Values) (sound : values_right w defaults edits v ≡ true) (i : ℕ) (row : i < count_of_attributes w) where
  abbrev kind : Kind
  kind = kind_of (attribute_row w i)

  abbrev nullable : Bool
  nullable = eqb (attribute_row w i).nullable 1

  abbrev word : ℕ
  word = get_or v.words i 0

  abbrev is_null : Bool
  is_null = get_or v.nulls i false

  abbrev shown : List ℕ
  shown = shown_of w defaults edits v i

  within : held kind nullable word is_null ≡ true
  within = limits-at w defaults edits v i (right-at w defaults edits v sound i row)

  shown-right : is_null ≡ false → textual kind ≡ true → (length shown ≤ text_bytes_limit) × (utf8.well_formed shown ≡ true)
  shown-right n t = shown-fits w defaults edits v i (text-row (attribute_row w i) ∙ t) n (right-at w defaults edits v sound i row)

  pub value-takable : Takable (datum_at w defaults edits v i)
  unfolding datum_at
  value-takable = kind-takable nullable word shown kind is_null within shown-right

  pub value-writable : (attribute_row w i).high < 2 ^ 64 → Writable (primitive_d (datum_at w defaults edits v i))
  unfolding datum_at
  value-writable f = kind-writable nullable word shown kind (high_fits (attribute_row w i) f) is_null within shown-right
