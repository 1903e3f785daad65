-- The schema as a list of typed attributes, decoded from its words (RULES 2).
use Rattle.std.specs.Prelude.{Bool, List, [], ◌∷◌, ℕ, ◌%◌, eqb, get_or}
use Rattle.std.specs.Int.{w64}
use Rattle.std.proofs.Common.{to_z}
use Rattle.tlv_reader.specs.Octet.{pick}
use Rattle.node_kinds.specs.declared.Kind.{Kind}
use Rattle.node_kinds.specs.declared.Kind.TheVariants.{Boolean, Unsigned, Signed, Float, Text}
use Rattle.node_kinds.specs.Float.{range_of}
use Rattle.node_schema.specs.Layout.{half}
use Rattle.node_schema.specs.Rows.{AttributeRow, attribute_row, count_of_attributes, rows_from, is_text, factory_start, factory_length}
use Rattle.node_plan.specs.declared.Attribute.{Attribute}

-- one answer for each kind code: 0 boolean, 1 unsigned, 2 signed, 3 float, 4 text. A code that there is not counts as boolean; the check refuses it
abbrev pub by_code : {A : Type 0} → A → A → A → A → A → ℕ → A
by_code b u s f t code = get_or (b ∷ u ∷ s ∷ f ∷ t ∷ []) code b

abbrev pub float_code : ℕ
float_code = 3

-- the kind and its limits (RULES 2.6): a signed limit is in two's complement, a float's is its 32 bits
unfoldable pub kind_of : AttributeRow → Kind
kind_of a =
    by_code Boolean (Unsigned a.low a.high) (Signed (to_z w64 a.low) (to_z w64 a.high))
    (Float (range_of (a.low % half) (a.high % half) (a.first % half))) Text a.kind

-- what only a text has: where its factory text starts, and its length
abbrev pub of_text : Bool → ℕ → ℕ
of_text text x = pick text x 0

-- the first value as one word: a text's is the length of the factory text of its rank
abbrev pub first_word : List ℕ → AttributeRow → ℕ
first_word w a = pick (is_text a) (factory_length w a.first) a.first

unfoldable pub typed : List ℕ → AttributeRow → Attribute
unfolding kind_of
typed w a =
    record {
      cluster = a.index_of_cluster;
      id = a.id;
      kind = kind_of a;
      nullable = eqb a.nullable 1;
      read = a.read;
      write = a.write;
      first = first_word w a;
      text = of_text (is_text a) (factory_start w a.first);
      len = of_text (is_text a) (factory_length w a.first);
    }

-- attribute i of the schema
abbrev pub attribute_of : List ℕ → ℕ → Attribute
attribute_of w i = typed w (attribute_row w i)

-- the schema's attributes, in order
abbrev pub attributes_of : List ℕ → List Attribute
attributes_of w = rows_from (attribute_of w) (count_of_attributes w) 0
