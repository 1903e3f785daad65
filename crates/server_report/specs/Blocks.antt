-- THE MEANING of a read as a list of blocks, in the order of RULES 5.3 to 5.5.
use Rattle.std.specs.Prelude.{◌≡◌, Bool, true, false, List, [], ◌∷◌, ◌++◌, map, ℕ, zero, suc, ◌+◌, ◌-◌, ◌<◌, get_or, drop, Some, None, Option}
use Rattle.base_bounds.specs.Bounds.{version_limit}
use Rattle.im_writer.specs.Block.{Block}
use Rattle.im_writer.specs.Meaning.{PathFits}
use Rattle.node_schema.specs.Rules.{path_at}
use Rattle.node_schema.specs.Check.{well_formed}
use Rattle.node_access.specs.declared.Grants.{Grants}
use Rattle.server_values.specs.declared.Values.{Values}
use Rattle.server_values.specs.Values.{datum_at, version_at}
use Rattle.server_values.specs.Valid.{values_right}
use Rattle.server_selection.specs.declared.asked.Asked.{Asked}
use Rattle.server_selection.specs.declared.items.Item.{Item}
use Rattle.server_selection.specs.declared.items.Item.TheVariants as item
use Rattle.server_selection.specs.Filters.{skips_now}
use Rattle.server_selection.specs.Items.{span, item_at}
use Rattle.server_report.specs.declared.ReadPlace.{ReadPlace}

-- a server as a reader sees it: its schema, what it holds and shows, what is granted to the reader, and which clusters his filters skip
pub record View : Type 0 where
  pub schema : List ℕ
  pub values : Values
  pub defaults : List ℕ
  pub edits : List ℕ
  pub grants : Grants
  pub skips : List Bool

-- with what the filters say of each cluster
abbrev pub view_of : List ℕ → Values → List ℕ → List ℕ → Grants → List ℕ → View
view_of w v defaults edits g filters =
    record { schema = w; values = v; defaults = defaults; edits = edits; grants = g; skips = skips_now w filters v.versions }

-- a view that keeps the rules: a schema that is well-formed, values that keep theirs, versions of 32 bits
pub record Sound (s : View) : Type 0 where
  pub schema-right : well_formed s.schema ≡ true
  pub values-right : values_right s.schema s.defaults s.edits s.values ≡ true
  pub version-fits : (k : ℕ) → get_or s.values.versions k 0 < version_limit

-- a path whose numbers have their widths
abbrev pub Named : Asked → Type 0
Named p = PathFits p.endpoint p.cluster p.attribute

-- the value of attribute i, at the version of its cluster
unfoldable pub value_block : List ℕ → Values → List ℕ → List ℕ → ℕ → Block
value_block w v defaults edits i =
    Block.value (version_at w v i) (path_at w i).endpoint (path_at w i).cluster (path_at w i).attribute (datum_at w defaults edits v i)

-- what a path finds, as a block; a status names the path that was asked for
unfoldable pub block_of : List ℕ → Values → List ℕ → List ℕ → Asked → Item → Option Block
block_of w v defaults edits p (item.Value i) = Some (value_block w v defaults edits i)
block_of w v defaults edits p (item.Status code) = Some (Block.status p.endpoint p.cluster p.attribute code)
block_of w v defaults edits p item.Nothing = None

abbrev pub is_nothing : Item → Bool
is_nothing (item.Value i) = false
is_nothing (item.Status code) = false
is_nothing item.Nothing = true

-- the phase in which attributes are reported; there is no other
abbrev pub attribute_phase : ℕ
attribute_phase = 0

-- the start of place i of path k: nothing of it was sent
abbrev pub start_of : ℕ → ℕ → ReadPlace
start_of k i = record { phase = attribute_phase; path = k; index = i; sent = 0 }

-- none or one, as a list
abbrev pub listed : Option Block → List Block
listed None = []
listed (Some b) = b ∷ []

-- the blocks at place i of a path
abbrev pub block_at : View → Asked → ℕ → List Block
block_at s p i = listed (block_of s.schema s.values s.defaults s.edits p (item_at s.schema s.grants s.skips p i))

-- a block with the place just after it, from which a read goes on after a part that ends with the block
pub record PlacedBlock : Type 0 where
  pub next : ReadPlace
  pub block : Block

-- a block of place i of path k; a place is sent whole, so after it comes the path's next
abbrev pub placed_at : ℕ → ℕ → Block → PlacedBlock
placed_at k i b = record { next = start_of k (i + 1); block = b }

-- the blocks at the n places of path k from place i on
unfoldable pub collect : ℕ → (ℕ → List Block) → ℕ → ℕ → List PlacedBlock
collect k f zero i = []
collect k f (suc n) i = map (placed_at k i) (f i) ++ collect k f n (i + 1)

-- the blocks of one path, from one of its places on
unfoldable pub path_blocks : View → ℕ → Asked → ℕ → List PlacedBlock
path_blocks s k p i = collect k (block_at s p) (span s.schema p - i) i

-- the blocks of paths, of which the first is number k and goes on from place i
unfoldable pub paths_blocks : View → ℕ → ℕ → List Asked → List PlacedBlock
paths_blocks s k i [] = []
paths_blocks s k i (p ∷ ps) = path_blocks s k p i ++ paths_blocks s (k + 1) 0 ps

-- THE BLOCKS of a request, from a place on; a place is sent whole or not at all, so how much of it was sent is not looked at
unfoldable pub blocks_from : View → List Asked → ReadPlace → List PlacedBlock
blocks_from s ps at = paths_blocks s at.path at.index (drop at.path ps)
