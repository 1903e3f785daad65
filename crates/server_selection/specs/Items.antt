-- What a path of a read finds (RULES 5.6 to 5.8): a value, a status, or nothing.
use Rattle.std.specs.Prelude.{Bool, false, List, ℕ, get_or}
use Rattle.tlv_reader.specs.Octet.{pick}
use Rattle.node_schema.specs.Rows.{attribute_row, count_of_attributes}
use Rattle.node_schema.specs.Rules.{path_at}
use Rattle.node_access.specs.declared.Grants.{Grants}
use Rattle.server_selection.specs.declared.asked.Asked.{Asked}
use Rattle.server_selection.specs.declared.items.Item.{Item}
use Rattle.server_selection.specs.declared.items.Item.TheVariants.{Value, Status, Nothing}
use Rattle.server_selection.specs.declared.locate.Located.{Located}
use Rattle.server_selection.specs.declared.locate.Located.TheVariants.{Here, Refused}
use Rattle.server_selection.specs.declared.reach.Use.TheVariants.{Read}
use Rattle.server_selection.specs.Reach.{allowed, reached}
use Rattle.server_selection.specs.Asked.{asks_for, concrete}

-- what a read makes of an attribute that it may use: nothing where the filters skip its cluster, else its value
abbrev pub found_item : List ℕ → List Bool → Located → Item
found_item w skips (Here i) = pick (get_or skips (attribute_row w i).index_of_cluster false) Nothing (Value i)
found_item w skips (Refused code) = Status code

-- attribute i: 8F not readable, then 7E privilege, then the filters, else its value
unfoldable pub read_item : List ℕ → Grants → List Bool → ℕ → Item
read_item w g skips i = found_item w skips (allowed Read w g i)

-- a wildcard gets no status (RULES 5.7)
abbrev pub silent : Item → Item
silent (Value i) = Value i
silent (Status code) = Nothing
silent Nothing = Nothing

-- a concrete path: the whole chain of reads
unfoldable pub concrete_item : List ℕ → Grants → List Bool → Asked → Item
concrete_item w g skips p = found_item w skips (reached Read w g p.endpoint p.cluster p.attribute)

unfoldable pub wildcard_item : List ℕ → Grants → List Bool → Asked → ℕ → Item
wildcard_item w g skips p i = pick (asks_for p (path_at w i)) (silent (read_item w g skips i)) Nothing

-- how many places a path has: one if it is concrete, else one for each attribute of the schema, in order
unfoldable pub span : List ℕ → Asked → ℕ
span w p = pick (concrete p) 1 (count_of_attributes w)

-- what stands at place i of a path
unfoldable pub item_at : List ℕ → Grants → List Bool → Asked → ℕ → Item
item_at w g skips p i = pick (concrete p) (concrete_item w g skips p) (wildcard_item w g skips p i)
