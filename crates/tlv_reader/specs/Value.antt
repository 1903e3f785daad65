-- The value of an element, as the code has it, and what it means.
use Rattle.std.specs.Prelude.{ℕ, ◌^◌, ◌%◌, ◌-◌, List, Bool, true, false, ℤ, take, drop, ltb, eqb}
use Rattle.tlv_reader.specs.declared.Element.{Element}
use Rattle.tlv_reader.specs.declared.Value.{Value}
use Rattle.tlv_reader.specs.declared.Value.TheVariants.{Null, Boolean, Unsigned, Signed, Float, Text, Other}
use Rattle.tlv_reader.specs.Octet.{pick, number_width}
use Rattle.tlv_reader.specs.Head.{head_at}
use Rattle.tlv_reader.specs.Walk.{headed}
use Rattle.tlv_reader.specs.Tree.{Primitive, Tree, complement}
use Rattle.tlv_reader.specs.Tree.Tree.{primitive, container}

-- the number of a signed element type, in its low octets
unfoldable pub signed_of : ℕ → ℕ → ℤ
signed_of kind n = complement (256 ^ number_width kind - 1) (n % 256 ^ number_width kind)

-- the value of the element with this head
unfoldable pub value_of : Element → Value
value_of e =
    pick (ltb e.kind 4) (Signed (signed_of e.kind e.number))
    (pick (ltb e.kind 8) (Unsigned e.number)
    (pick (eqb e.kind 8) (Boolean false)
    (pick (eqb e.kind 9) (Boolean true)
    (pick (eqb e.kind 10) (Float (e.number % 4294967296))
    (pick (ltb e.kind 12) Other
    (pick (ltb e.kind 16) (Text e.body e.number)
    (pick (eqb e.kind 20) Null Other)))))))

-- the value that stands at a place of a message
unfoldable pub value_in : List ℕ → ℕ → Value
value_in s at = headed Other value_of (head_at s at)

-- what a data element means here: null, a value of one of five types, or something else
pub data Datum : Type 0 where
  null : Datum
  boolean : Bool → Datum
  unsigned : ℕ → Datum
  signed : ℤ → Datum
  float : ℕ → Datum
  text : List ℕ → Datum
  other : Datum

-- of a parsed value, its text in a message
abbrev pub datum_in : List ℕ → Value → Datum
datum_in s Null = null
datum_in s (Boolean b) = boolean b
datum_in s (Unsigned n) = unsigned n
datum_in s (Signed z) = signed z
datum_in s (Float n) = float n
datum_in s (Text a n) = text (take n (drop a s))
datum_in s Other = other

-- of a tree
abbrev pub datum_p : Primitive → Datum
datum_p Primitive.null = null
datum_p (Primitive.boolean b) = boolean b
datum_p (Primitive.unsigned n) = unsigned n
datum_p (Primitive.signed z) = signed z
datum_p (Primitive.float32 n) = float n
datum_p (Primitive.float64 n) = other
datum_p (Primitive.text b) = text b
datum_p (Primitive.octets b) = other

abbrev pub datum_t : Tree → Datum
datum_t (primitive t x) = datum_p x
datum_t (container t k ts) = other
