-- The schema of all lines so far: the words as they were set up, with each attribute's key by its cluster's row, and of a text its rank and factory text.
use Rattle.std.specs.Prelude.{List, ℕ, zero, suc, ◌+◌, ◌*◌, ◌/◌, ◌%◌, ◌^◌, min, ltb, set, take, Some, None, Option}
use Rattle.base_bounds.specs.Bounds.{cluster_limit}
use Rattle.tlv_reader.specs.Octet.{pick}
use Rattle.node_schema.specs.Layout.{text_limit, key_column, low_column, high_column, first_column, factory_column, word_count, half}
use Rattle.node_schema.specs.Rows.{word, attribute_row, count_of_attributes, is_text}
use Rattle.node_schema.specs.Find.{find_cluster}
use Rattle.script_setup.specs.Attributes.{paths_column}

-- where the cluster of a path stands among the rows; past the last row where it has none, so that the schema is refused
abbrev pub row_found : Option ℕ → ℕ
row_found (Some i) = min i cluster_limit
row_found None = cluster_limit

unfoldable pub row_of : List ℕ → ℕ → ℕ
row_of w path = row_found (find_cluster w (path / half % 2 ^ 16) (path % half))

-- the key of an attribute: its cluster's row, and its number, which was set up there
unfoldable pub keyed : List ℕ → ℕ → ℕ → List ℕ
keyed w i path = set w (key_column + i) (row_of w path * half + word w key_column i % half)

-- the factory text of a rank, whose start and length its row has as lowest and highest; one past the limit is not kept, and the schema is refused
unfoldable pub factory_set : List ℕ → ℕ → ℕ → List ℕ
factory_set w i rank = pick (ltb rank text_limit) (set w (factory_column + rank) (word w low_column i % half * half + word w high_column i % half)) w

-- an attribute, after so many texts: of a text its rank too, in the place of its first value, and its factory text
abbrev pub with_text : List ℕ → ℕ → ℕ → List ℕ
with_text w i rank = pick (is_text (attribute_row w i)) (factory_set (set w (first_column + i) rank) i rank) w

unfoldable pub key_set : List ℕ → ℕ → ℕ → ℕ → List ℕ
key_set w i path rank = with_text (keyed w i path) i rank

-- how many texts there are with it
unfoldable pub rank_past : List ℕ → ℕ → ℕ → ℕ → ℕ
rank_past w i path rank = pick (is_text (attribute_row (keyed w i path) i)) (rank + 1) rank

-- n attributes from i on, whose paths stand in their column
unfoldable pub keys_from : ℕ → List ℕ → ℕ → ℕ → List ℕ → List ℕ
keys_from zero setup i rank w = w
keys_from (suc n) setup i rank w =
    let path = word setup paths_column i in
    keys_from n setup (i + 1) (rank_past w i path rank) (key_set w i path rank)

-- all clusters are known now
unfoldable pub keys_set : List ℕ → List ℕ → List ℕ
keys_set setup w = keys_from (count_of_attributes w) setup 0 0 w

abbrev pub schema_of : List ℕ → List ℕ
schema_of setup = keys_set setup (take word_count setup)
