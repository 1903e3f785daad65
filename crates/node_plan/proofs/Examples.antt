-- Schemas of one attribute, checked by computation.
use mathlib.Core.Path.{◌≡◌, refl}
use mathlib.Core.List.{List, [], ◌∷◌, ◌++◌}
use Prim.Native.Nat.{ℕ, ◌+◌, ◌*◌, ◌-◌, ◌^◌}
use lib.Ieee.{of_bits, le}
use Rattle.base_bounds.specs.Bounds.{cluster_limit, attribute_limit}
use Rattle.base_utf8.specs.WellFormed.{well_formed, completes, trailing, after, table, within}
use Rattle.node_kinds.specs.Float.{range_ok}
use Rattle.node_schema.specs.Layout.{header_size}
use Rattle.node_schema.specs.Rows.{column, rows_from}
use Rattle.node_schema.specs.Check as Schema
use Rattle.node_schema.specs.Check.{every, count, rises, changes}
use Rattle.node_plan.specs.Check.{float_right, number_right, factory_right, numbers_right, texts_right, accepted, checked}

-- endpoint 1, cluster 6 at version 5, attribute 0, of this kind, lowest, highest and first word, and the word of factory text 0
abbrev with : ℕ → ℕ → ℕ → ℕ → ℕ → List ℕ
with factory kind low high first =
    column header_size (1 ∷ 1 ∷ 7 ∷ [])
    ++ (column cluster_limit ((2 ^ 32 + 6) ∷ [])
    ++ (column cluster_limit (5 ∷ [])
    ++ (column attribute_limit []
    ++ (column attribute_limit ((kind + 2 ^ 16 + 2 ^ 24 * 3) ∷ [])
    ++ (column attribute_limit (low ∷ []) ++ (column attribute_limit (high ∷ []) ++ (column attribute_limit (first ∷ []) ++ (factory ∷ []))))))))

abbrev one : ℕ → ℕ → ℕ → ℕ → List ℕ
one = with 0

-- a text of length len that starts at start of the page; its lowest and highest are not looked at
abbrev text : ℕ → ℕ → List ℕ
text start len = with (start * 2 ^ 32 + len) 4 7 7 0

-- a boolean: true, and 2; unsigned to 10: 10, and 11; signed from -1 to 1: 0, and 2; a float from 0.0 to 100.0: 100.0, and the next float
numbers :
    checked (one 0 0 0 1) [] ∷ checked (one 0 0 0 2) [] ∷ checked (one 1 0 10 10) [] ∷ checked (one 1 0 10 11) []
    ∷ checked (one 2 (2 ^ 64 - 1) 1 0) [] ∷ checked (one 2 (2 ^ 64 - 1) 1 2) []
    ∷ checked (one 3 0 0x42C8_0000 0x42C8_0000) [] ∷ checked (one 3 0 0x42C8_0000 0x42C8_0001) [] ∷ []
    ≡ 0 ∷ 11 ∷ 0 ∷ 11 ∷ 0 ∷ 11 ∷ 0 ∷ 11 ∷ []
unfolding checked accepted numbers_right texts_right number_right factory_right float_right range_ok of_bits le well_formed completes trailing after table within Schema.well_formed rises every count changes rows_from
numbers = refl

-- a text of two bytes, of three where the page has two, and one that is no UTF-8
texts :
    checked (text 0 2) (0x68 ∷ 0x69 ∷ []) ∷ checked (text 0 3) (0x68 ∷ 0x69 ∷ []) ∷ checked (text 1 1) (0x68 ∷ 0xFF ∷ []) ∷ []
    ≡ 0 ∷ 11 ∷ 11 ∷ []
unfolding checked accepted numbers_right texts_right number_right factory_right float_right range_ok of_bits le well_formed completes trailing after table within Schema.well_formed rises every count changes rows_from
texts = refl
