-- Elements as we write them, in octets (Matter Core Specification, Appendix A; RULES 4.3: the least width).
use Rattle.std.specs.Prelude.{ℕ, ◌+◌, ◌*◌, ◌≤◌, List, [], ◌∷◌, ◌++◌, Bool, ℤ, length}
use Rattle.base_octets.specs.Number.{bytes_of}
use Rattle.tlv_reader.specs.Octet.{pick, tag_width, head_octets, end_of_container}
use Rattle.tlv_reader.specs.Value.{Datum}
use Rattle.tlv_reader.specs.Value.Datum.{null, boolean, unsigned, signed, float, text, other}
use Rattle.tlv_reader.specs.declared.Value.{Value}
use Rattle.tlv_reader.specs.declared.Value.TheVariants.{Null, Boolean, Unsigned, Signed, Float, Text, Other}
use Rattle.tlv_writer.specs.declared.Tag.{Tag}
use Rattle.tlv_writer.specs.declared.Tag.TheVariants.{Anonymous, Context}
use Rattle.tlv_writer.specs.Width.{least_width, least_signed_width, twos, width_code}

-- a tag's form and its number
unfoldable pub form_of : Tag → ℕ
form_of Anonymous = 0
form_of (Context n) = 1

unfoldable pub label_of : Tag → ℕ
label_of Anonymous = 0
label_of (Context n) = n

-- control octet and tag, and how many octets they are
unfoldable pub start_octets : Tag → ℕ → List ℕ
start_octets tag kind = (form_of tag * 32 + kind) ∷ bytes_of (tag_width (form_of tag)) (label_of tag)

unfoldable pub head_length : Tag → ℕ
head_length tag = 1 + tag_width (form_of tag)

-- control octet, tag and number
unfoldable pub head_for : Tag → ℕ → ℕ → List ℕ
head_for tag kind number = head_octets (form_of tag) kind (label_of tag) number

-- element types
abbrev pub signed_kind : ℤ → ℕ
signed_kind z = width_code (least_signed_width z)

abbrev pub unsigned_kind : ℕ → ℕ
unsigned_kind v = 4 + width_code (least_width v)

abbrev pub boolean_kind : Bool → ℕ
boolean_kind b = pick b 9 8

abbrev pub float_kind : ℕ
float_kind = 10

abbrev pub text_kind : ℕ → ℕ
text_kind n = 12 + width_code (least_width n)

abbrev pub null_kind : ℕ
null_kind = 20

unfoldable pub unsigned_octets : Tag → ℕ → List ℕ
unsigned_octets tag v = head_for tag (unsigned_kind v) v

unfoldable pub signed_octets : Tag → ℤ → List ℕ
signed_octets tag z = head_for tag (signed_kind z) (twos (least_signed_width z) z)

unfoldable pub boolean_octets : Tag → Bool → List ℕ
boolean_octets tag b = head_for tag (boolean_kind b) 0

unfoldable pub null_octets : Tag → List ℕ
null_octets tag = head_for tag null_kind 0

-- a float32 by its bits
unfoldable pub float_octets : Tag → ℕ → List ℕ
float_octets tag n = head_for tag float_kind n

unfoldable pub text_octets : Tag → List ℕ → List ℕ
text_octets tag bs = head_for tag (text_kind (length bs)) (length bs) ++ bs

-- a container of an element type: its opening, and after its members its end
unfoldable pub open_octets : Tag → ℕ → List ℕ
open_octets tag kind = head_for tag kind 0

abbrev pub end_octets : List ℕ
end_octets = end_of_container ∷ []

-- a value; of one that we do not write, nothing
unfoldable pub datum_octets : Tag → Datum → List ℕ
datum_octets tag null = null_octets tag
datum_octets tag (boolean b) = boolean_octets tag b
datum_octets tag (unsigned v) = unsigned_octets tag v
datum_octets tag (signed z) = signed_octets tag z
datum_octets tag (float n) = float_octets tag n
datum_octets tag (text bs) = text_octets tag bs
datum_octets tag other = []

-- a parsed value's text lies in the page
abbrev pub InPage : List ℕ → Value → Type 0
InPage page Null = Unit {0}
InPage page (Boolean b) = Unit {0}
InPage page (Unsigned v) = Unit {0}
InPage page (Signed z) = Unit {0}
InPage page (Float n) = Unit {0}
InPage page (Text start n) = start + n ≤ length page
InPage page Other = Unit {0}
