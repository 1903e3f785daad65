-- Information blocks (chapter 10, 10.5) as trees, their fields in rising tag order.
use Rattle.std.specs.Prelude.{ℕ, ◌≤◌, Bool, length}
use Rattle.base_bounds.specs.Bounds.{text_bytes_limit}
use Rattle.tlv_reader.specs.Octet.{structure, list}
use Rattle.tlv_reader.specs.Tree.{Tree, Trees, Primitive}
use Rattle.tlv_reader.specs.Tree.Tag.{anonymous, context}
use Rattle.tlv_reader.specs.Tree.Tree.{primitive, container}
use Rattle.tlv_reader.specs.Tree.Trees.{none, more}
use Rattle.tlv_reader.specs.Value.{Datum}
use Rattle.im_writer.specs.Spelling.{primitive_d}

-- a number and a boolean with a context tag
abbrev pub number : ℕ → ℕ → Tree
number tag n = primitive (context tag) (Primitive.unsigned n)

abbrev pub flag : ℕ → Bool → Tree
flag tag b = primitive (context tag) (Primitive.boolean b)

-- AttributePathIB (10.5.2): an attribute's path, under a context tag
unfoldable pub path_tree : ℕ → ℕ → ℕ → ℕ → Tree
path_tree tag endpoint cluster attribute =
    container (context tag) list (more (number 2 endpoint) (more (number 3 cluster) (more (number 4 attribute) none)))

-- AttributeDataIB (10.5.4) without its version: path and data
unfoldable pub data_members : ℕ → ℕ → ℕ → Datum → Trees
data_members endpoint cluster attribute d =
    more (path_tree 1 endpoint cluster attribute) (more (primitive (context 2) (primitive_d d)) none)

-- AttributeReportIB (10.5.5) with data
unfoldable pub data_block_tree : ℕ → ℕ → ℕ → ℕ → Datum → Tree
data_block_tree version endpoint cluster attribute d =
    container anonymous structure
    (more (container (context 1) structure (more (number 0 version) (data_members endpoint cluster attribute d))) none)

-- StatusIB (10.5.17)
unfoldable pub status_tree : ℕ → ℕ → Tree
status_tree tag code = container (context tag) structure (more (number 0 code) none)

-- AttributeStatusIB (10.5.16): path and status
unfoldable pub answer_members : ℕ → ℕ → ℕ → ℕ → Trees
answer_members endpoint cluster attribute code =
    more (path_tree 0 endpoint cluster attribute) (more (status_tree 1 code) none)

-- AttributeReportIB (10.5.5) with a status
unfoldable pub status_block_tree : ℕ → ℕ → ℕ → ℕ → Tree
status_block_tree endpoint cluster attribute code =
    container anonymous structure
    (more (container (context 0) structure (answer_members endpoint cluster attribute code)) none)

-- a block of a report: an attribute's value at its cluster's version, or the status that its path gets
pub data Block : Type 0 where
  value : (version endpoint cluster attribute : ℕ) → Datum → Block
  status : (endpoint cluster attribute code : ℕ) → Block

unfoldable pub block_tree : Block → Tree
block_tree (Block.value version endpoint cluster attribute d) = data_block_tree version endpoint cluster attribute d
block_tree (Block.status endpoint cluster attribute code) = status_block_tree endpoint cluster attribute code

-- an AttributeStatusIB of a write response
unfoldable pub answer_tree : ℕ → ℕ → ℕ → ℕ → Tree
answer_tree endpoint cluster attribute code =
    container anonymous structure (answer_members endpoint cluster attribute code)

-- a text has at most what a server's plan allows it
unfoldable pub ShortText : Datum → Type 0
ShortText Datum.null = Unit {0}
ShortText (Datum.boolean b) = Unit {0}
ShortText (Datum.unsigned n) = Unit {0}
ShortText (Datum.signed z) = Unit {0}
ShortText (Datum.float n) = Unit {0}
ShortText (Datum.text bs) = length bs ≤ text_bytes_limit
ShortText Datum.other = Unit {0}
