-- A value of a line, to its end: a word for its kind, and what follows by the kind.
use Rattle.std.specs.Prelude.{List, [], ◌∷◌, Bool, false, ℕ, ◌^◌, ◌-◌, eqb}
use Rattle.std.specs.Int.{w64}
use Rattle.std.proofs.Common.{to_z}
use Rattle.tlv_reader.specs.Octet.{pick}
use Rattle.tlv_reader.specs.declared.Value.{Value}
use Rattle.tlv_reader.specs.declared.Value.TheVariants.{Null, Boolean, Unsigned, Signed, Float, Text}
use Rattle.node_kinds.specs.Stored.{equal}
use Rattle.script_lines.specs.declared.Scan.{Scan}
use Rattle.script_lines.specs.declared.Word.{Word}
use Rattle.script_lines.specs.declared.hex.Bytes.{Bytes}
use Rattle.script_lines.specs.declared.number.Number.{Number as NumberRead}
use Rattle.script_lines.specs.declared.value.Parsed.{Parsed}
use Rattle.script_lines.specs.Words.{is_done, next_word, word_bytes}
use Rattle.script_lines.specs.Numbers.{number_at, signed_at, float_at, flag_at}
use Rattle.script_lines.specs.Bytes.{rest_at, rest_kept}

-- the words of the kinds: bool, unsigned, signed, float, text; and null
abbrev pub bool_word : List ℕ
bool_word = 98 ∷ 111 ∷ 111 ∷ 108 ∷ []

abbrev pub unsigned_word : List ℕ
unsigned_word = 117 ∷ 110 ∷ 115 ∷ 105 ∷ 103 ∷ 110 ∷ 101 ∷ 100 ∷ []

abbrev pub signed_word : List ℕ
signed_word = 115 ∷ 105 ∷ 103 ∷ 110 ∷ 101 ∷ 100 ∷ []

abbrev pub float_word : List ℕ
float_word = 102 ∷ 108 ∷ 111 ∷ 97 ∷ 116 ∷ []

abbrev pub text_word : List ℕ
text_word = 116 ∷ 101 ∷ 120 ∷ 116 ∷ []

abbrev pub null_word : List ℕ
null_word = 110 ∷ 117 ∷ 108 ∷ 108 ∷ []

abbrev pub parsed : Value → Bool → Parsed
parsed v ok = record { value = v; ok = ok }

-- a number's value, if the line ends behind it
abbrev pub parsed_by : (ℕ → Value) → NumberRead → Parsed
parsed_by f n = parsed (f n.value) (is_done n.next)

-- a number of a kind, by the kind's word
unfoldable pub numeric_at : List ℕ → List ℕ → Scan → Parsed
numeric_at kind line s =
    pick (equal kind bool_word) (parsed_by (λ n. Boolean (eqb n 1)) (flag_at line s))
    (pick (equal kind unsigned_word) (parsed_by (λ n. Unsigned n) (number_at line s (2 ^ 64 - 1)))
    (pick (equal kind signed_word) (parsed_by (λ n. Signed (to_z w64 n)) (signed_at line s))
    (pick (equal kind float_word) (parsed_by (λ n. Float n) (float_at line s)) (parsed Null false))))

-- a text: the first bytes of a buffer
abbrev pub text_of : Bytes → Parsed
text_of b = parsed (Text 0 b.len) b.ok

abbrev pub value_in : List ℕ → ℕ → Word → Parsed
value_in line room w =
    pick (equal (word_bytes line w) null_word) (parsed Null (is_done w.next))
    (pick (equal (word_bytes line w) text_word) (text_of (rest_at line w.next room)) (numeric_at (word_bytes line w) line w.next))

-- the value that the next words say, with room for a text
unfoldable pub value_at : List ℕ → Scan → ℕ → Parsed
value_at line s room = value_in line room (next_word line s)

abbrev pub text_in : List ℕ → List ℕ → Word → List ℕ
text_in line old w =
    pick (equal (word_bytes line w) null_word) old (pick (equal (word_bytes line w) text_word) (rest_kept line w.next old) old)

-- a buffer with the text's bytes, if the value is a text
unfoldable pub value_kept : List ℕ → Scan → List ℕ → List ℕ
value_kept line s old = text_in line old (next_word line s)
