-- Stored values: 64 bits and whether it is null; changes and versions (RULES 2.24, 2.25).
use Rattle.std.specs.Prelude.{List, [], ◌∷◌, Bool, true, false, not, ◌&&◌, cond, ℕ, ◌+◌, ◌%◌, ◌<◌, leb, ltb, eqb}
use Rattle.std.specs.Int.{w64}
use Rattle.std.proofs.Common.{to_z, of_z, SFits}
use Rattle.base_bounds.specs.Bounds.{text_bytes_limit, version_limit}
use Rattle.tlv_reader.specs.declared.Value.{Value}
use Rattle.tlv_reader.specs.declared.Value.TheVariants.{Null, Boolean, Unsigned, Signed, Float, Text, Other}
use Rattle.tlv_reader.specs.Octet.{pick}
use Rattle.node_kinds.specs.declared.Kind.{Kind}
use Rattle.node_kinds.specs.Float.{in_range}
use Rattle.node_kinds.specs.Limits.{by_kind, between, between_z}

-- the 64 bits that a value is stored as; a text's are its length, its bytes lie in a page
unfoldable pub word_of : Value → ℕ
word_of Null = 0
word_of (Boolean b) = cond b 1 0
word_of (Unsigned n) = n
word_of (Signed z) = of_z w64 z
word_of (Float n) = n
word_of (Text a n) = n
word_of Other = 0

-- the value that 64 bits and a null flag are; a text is shown at a place of a page
unfoldable pub value_from : Kind → ℕ → Bool → ℕ → Value
value_from kind w is_null start =
    pick is_null Null
    (by_kind (Boolean (not (eqb w 0))) (λ l h. Unsigned w) (λ l h. Signed (to_z w64 w)) (λ r. Float (w % 4294967296)) (Text start w) kind)

-- what a kind's limits allow to be stored; null is stored as 0
unfoldable pub held : Kind → Bool → ℕ → Bool → Bool
held kind nullable w is_null =
    pick is_null (nullable && eqb w 0)
    (by_kind (leb w 1) (λ low high. between low w high) (λ low high. between_z low (to_z w64 w) high)
    (λ r. ltb w 4294967296 && in_range r w) (leb w text_bytes_limit) kind)

-- texts by their bytes
unfoldable pub equal : List ℕ → List ℕ → Bool
equal [] [] = true
equal [] (y ∷ b) = false
equal (x ∷ a) [] = false
equal (x ∷ a) (y ∷ b) = eqb x y && equal a b

-- RULES 2.25: the version after a change
unfoldable pub next_version : ℕ → ℕ
next_version v = (v + 1) % version_limit

-- the numbers of a value fit their widths, as those of the code's values do
abbrev pub Sized : Value → Type 0
Sized Null = Unit
Sized (Boolean b) = Unit
Sized (Unsigned n) = Unit
Sized (Signed z) = SFits w64 z
Sized (Float n) = n < 4294967296
Sized (Text a n) = Unit
Sized Other = Unit
