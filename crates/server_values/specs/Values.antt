-- What a server holds (RULES 2): the values of its attributes, read off the arrays.
use Rattle.std.specs.Prelude.{Bool, false, not, cond, List, [], ℕ, ◌%◌, eqb, ltb, get_or}
use Rattle.std.specs.Int.{w64}
use Rattle.std.proofs.Common.{to_z}
use Rattle.tlv_reader.specs.declared.Value.{Value}
use Rattle.tlv_reader.specs.Octet.{pick}
use Rattle.tlv_reader.specs.Value.{Datum, null, boolean, unsigned, signed, float, text}
use Rattle.node_kinds.specs.declared.Kind.{Kind}
use Rattle.node_kinds.specs.Limits.{by_kind}
use Rattle.node_kinds.specs.Stored.{value_from}
use Rattle.node_schema.specs.Layout.{text_limit, half}
use Rattle.node_schema.specs.Rows.{attribute_row, is_text, factory_start, factory_length}
use Rattle.node_plan.specs.Attributes.{kind_of}
use Rattle.node_plan.specs.Pages.{shown_length, shown_text}
use Rattle.server_values.specs.declared.Values.{Values}

-- the values, of arrays that are lent
abbrev pub values_of : List ℕ → List Bool → List ℕ → List ℕ → Values
values_of words nulls texts versions = record { words = words; nulls = nulls; texts = texts; versions = versions }

-- the shown text of a rank, by its mark (RULES 2.21)
abbrev pub rank_text : List ℕ → List ℕ → List ℕ → ℕ → ℕ → List ℕ
rank_text w defaults edits r mark = shown_text defaults edits (factory_start w r) (factory_length w r) r mark

abbrev pub rank_length : List ℕ → ℕ → ℕ → ℕ
rank_length w r mark = shown_length (factory_length w r) mark

-- the mark of a rank; 0 where no text has the rank by the limit
abbrev pub mark_of : List ℕ → ℕ → ℕ
mark_of texts r = cond (ltb r text_limit) (get_or texts r 0) 0

-- that of attribute i, if it is a text, is its rank's
abbrev pub mark_at : List ℕ → List ℕ → ℕ → ℕ
mark_at w texts i = mark_of texts (attribute_row w i).first

-- the shown text of attribute i with its mark; no other attribute has one
unfoldable pub text_at : List ℕ → List ℕ → List ℕ → ℕ → ℕ → List ℕ
text_at w defaults edits i mark = pick (is_text (attribute_row w i)) (rank_text w defaults edits (attribute_row w i).first mark) []

-- the value that 64 bits and a null mark are, of a kind; a text is what is shown
unfoldable pub held_datum : Kind → ℕ → Bool → List ℕ → Datum
held_datum kind word is_null shown =
    pick is_null null
    (by_kind (boolean (not (eqb word 0))) (λ l h. unsigned word) (λ l h. signed (to_z w64 word)) (λ r. float (word % half)) (text shown) kind)

-- what is shown of attribute i
abbrev pub shown_of : List ℕ → List ℕ → List ℕ → Values → ℕ → List ℕ
shown_of w defaults edits v i = text_at w defaults edits i (mark_at w v.texts i)

-- THE VALUE of attribute i
unfoldable pub datum_at : List ℕ → List ℕ → List ℕ → Values → ℕ → Datum
unfolding held_datum
datum_at w defaults edits v i =
    held_datum (kind_of (attribute_row w i)) (get_or v.words i 0) (get_or v.nulls i false) (shown_of w defaults edits v i)

-- as the code has it: a text of len bytes at the start of the shown part
unfoldable pub value_at : List ℕ → ℕ → ℕ → Bool → ℕ → Value
value_at w i word is_null len = value_from (kind_of (attribute_row w i)) (pick (is_text (attribute_row w i)) len word) is_null 0

-- the data version of the cluster of attribute i
abbrev pub version_at : List ℕ → Values → ℕ → ℕ
version_at w v i = get_or v.versions (attribute_row w i).index_of_cluster 0
