-- The whole check of a schema, as the code makes it. What it means is the record SchemaRules; proofs/RulesLaws.antt shows that they agree.
use Rattle.std.specs.Prelude.{Bool, true, ◌&&◌, List, ℕ, ◌+◌, ltb, leb, length, take, drop}
use Rattle.std.specs.Int.{w64}
use Rattle.std.proofs.Common.{to_z}
use Rattle.base_bounds.specs.Bounds.{text_bytes_limit}
use Rattle.tlv_reader.specs.Octet.{pick}
use Rattle.base_utf8.specs.WellFormed.{well_formed}
use Rattle.node_kinds.specs.Float.{range_ok}
use Rattle.node_kinds.specs.Limits.{between, between_z}
use Rattle.node_schema.specs.Layout.{half}
use Rattle.node_schema.specs.Rows.{AttributeRow, attribute_row, count_of_attributes, factory_start, factory_length}
use Rattle.node_schema.specs.Check.{every, count_of_texts}
use Rattle.node_schema.specs.Check as Schema
use Rattle.node_plan.specs.Attributes.{by_code}

-- three words of 32 bits, finite as floats and in order
unfoldable pub float_right : ℕ → ℕ → ℕ → Bool
float_right low high first = ltb low half && (ltb high half && (ltb first half && range_ok low high first))

-- the first value of a row that is no text, by its kind's code
unfoldable pub number_right : AttributeRow → Bool
number_right a =
    by_code (leb a.first 1) (between a.low a.first a.high)
    (between_z (to_z w64 a.low) (to_z w64 a.first) (to_z w64 a.high)) (float_right a.low a.high a.first) true a.kind

-- a factory text: its length, its place in the page, its bytes
unfoldable pub factory_right : List ℕ → ℕ → ℕ → Bool
factory_right page start len = leb len text_bytes_limit && (leb (start + len) (length page) && well_formed (take len (drop start page)))

unfoldable pub numbers_right : List ℕ → Bool
unfolding number_right
numbers_right w = every (λ i. number_right (attribute_row w i)) (count_of_attributes w)

-- the factory text of each rank
unfoldable pub texts_right : List ℕ → List ℕ → Bool
unfolding factory_right
texts_right w page = every (λ r. factory_right page (factory_start w r) (factory_length w r)) (count_of_texts w)

unfoldable pub accepted : List ℕ → List ℕ → Bool
accepted w page = Schema.well_formed w && (numbers_right w && texts_right w page)

-- RULES 6.1: 0 done, 11 the plan breaks a rule
abbrev pub done : ℕ
done = 0

abbrev pub schema_refused : ℕ
schema_refused = 11

unfoldable pub checked : List ℕ → List ℕ → ℕ
unfolding accepted
checked w page = pick (accepted w page) done schema_refused
