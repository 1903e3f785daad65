-- What an attribute may hold, and the verdict on a new value (RULES 2.6 to 2.10; 5.14: 8D, 87, 00).
use Rattle.std.specs.Prelude.{List, [], Bool, true, false, ◌&&◌, ℕ, ◌-◌, ℤ, leb, length}
use Rattle.std.specs.Int.Signed.{le_z}
use Rattle.base_bounds.specs.Bounds.{text_bytes_limit}
use Rattle.tlv_reader.specs.declared.Value.{Value}
use Rattle.tlv_reader.specs.declared.Value.TheVariants as Parsed
use Rattle.tlv_reader.specs.Octet.{pick}
use Rattle.tlv_reader.specs.Value.{Datum, null, boolean, unsigned, signed, float, text, other, datum_in}
use Rattle.base_utf8.specs.WellFormed.{well_formed}
use Rattle.node_kinds.specs.declared.Range.{Range}
use Rattle.node_kinds.specs.declared.Kind.{Kind}
use Rattle.node_kinds.specs.declared.Kind.TheVariants as Kinds
use Rattle.node_kinds.specs.declared.Verdict.{Verdict}
use Rattle.node_kinds.specs.declared.Verdict.TheVariants.{Success, ConstraintError, InvalidDataType}
use Rattle.node_kinds.specs.Float.{in_range}

-- the status codes: SUCCESS, CONSTRAINT_ERROR, INVALID_DATA_TYPE
unfoldable pub status_code : Verdict → ℕ
status_code Success = 0x00
status_code ConstraintError = 0x87
status_code InvalidDataType = 0x8D

-- one answer for each of the five kinds, in the order boolean, unsigned, signed, float, text
abbrev pub by_kind : {A : Type 0} → A → (ℕ → ℕ → A) → (ℤ → ℤ → A) → (Range → A) → A → Kind → A
by_kind b u s f t Kinds.Boolean = b
by_kind b u s f t (Kinds.Unsigned low high) = u low high
by_kind b u s f t (Kinds.Signed low high) = s low high
by_kind b u s f t (Kinds.Float r) = f r
by_kind b u s f t Kinds.Text = t

-- within the limits or not
abbrev pub limited : Bool → Verdict
limited true = Success
limited false = ConstraintError

abbrev pub wrong : Verdict
wrong = InvalidDataType

abbrev pub between : ℕ → ℕ → ℕ → Bool
between low n high = leb low n && leb n high

abbrev pub between_z : ℤ → ℤ → ℤ → Bool
between_z low z high = le_z low z && le_z z high

-- THE LIMITS: a value of each type against each kind; another type than the kind's own is wrong. Null is judged below
unfoldable pub against : Datum → Kind → Verdict
against null k = wrong
against (boolean b) k = by_kind Success (λ l h. wrong) (λ l h. wrong) (λ r. wrong) wrong k
against (unsigned n) k = by_kind wrong (λ low high. limited (between low n high)) (λ l h. wrong) (λ r. wrong) wrong k
against (signed z) k = by_kind wrong (λ l h. wrong) (λ low high. limited (between_z low z high)) (λ r. wrong) wrong k
against (float n) k = by_kind wrong (λ l h. wrong) (λ l h. wrong) (λ r. limited (in_range r n)) wrong k
against (text b) k = by_kind wrong (λ l h. wrong) (λ l h. wrong) (λ r. wrong) (limited (leb (length b) text_bytes_limit && well_formed b)) k
against other k = wrong

abbrev pub is_null : Datum → Bool
is_null null = true
is_null (boolean b) = false
is_null (unsigned n) = false
is_null (signed z) = false
is_null (float n) = false
is_null (text b) = false
is_null other = false

-- of a parsed value
abbrev pub null_of : Value → Bool
null_of v = is_null (datum_in [] v)

-- THE VERDICT on a value: null is a matter of limits alone, never of type
unfoldable pub judged : Kind → Bool → Datum → Verdict
unfolding against
judged kind nullable d = pick (is_null d) (limited nullable) (against d kind)

-- a text of n bytes from a on lies in the message; other values need no place in it
abbrev pub inside : List ℕ → Value → Bool
inside s Parsed.Null = true
inside s (Parsed.Boolean b) = true
inside s (Parsed.Unsigned n) = true
inside s (Parsed.Signed z) = true
inside s (Parsed.Float n) = true
inside s (Parsed.Text a n) = leb n (length s) && leb a (length s - n)
inside s Parsed.Other = true

-- a verdict with one limit more
abbrev pub also : Bool → Verdict → Verdict
also true v = v
also false Success = ConstraintError
also false ConstraintError = ConstraintError
also false InvalidDataType = InvalidDataType

abbrev pub against_in : List ℕ → Value → Kind → Verdict
against_in s v kind = also (inside s v) (against (datum_in s v) kind)

-- THE VERDICT on a parsed value: on what it means in its message, where a text has to lie
unfoldable pub judged_in : List ℕ → Kind → Bool → Value → Verdict
unfolding judged
judged_in s kind nullable v = also (inside s v) (judged kind nullable (datum_in s v))
