-- Messages that the server writes (chapter 10, 10.6): as trees, and the octets around the blocks that are written one by one.
use Rattle.std.specs.Prelude.{ℕ, ◌-◌, ◌≤◌, ◌≡◌, Bool, true, List, [], ◌∷◌, ◌++◌}
use Rattle.base_bounds.specs.Bounds.{depth_limit}
use Rattle.tlv_reader.specs.Octet.{pick, structure, array}
use Rattle.tlv_reader.specs.Tree.{Tree, Trees, depth, stands, tag_of_tree}
use Rattle.tlv_reader.specs.Tree.Tag.{anonymous, context}
use Rattle.tlv_reader.specs.Tree.Tree.{container}
use Rattle.tlv_reader.specs.Tree.Trees.{none, more}
use Rattle.tlv_writer.specs.declared.Tag.TheVariants.{Anonymous, Context}
use Rattle.tlv_writer.specs.Element.{open_octets, end_octets}
use Rattle.im_writer.specs.Spelling.{spellings, members, Ours}
use Rattle.im_writer.specs.Block.{number, flag}

-- a message is an untagged structure
abbrev pub message_tree : Trees → Tree
message_tree ts = container anonymous structure ts

-- every message ends with its revision, tag 0xFF; we write 10 (RULES 4.15)
unfoldable pub revision : Trees
revision = more (number 0xFF 10) none

-- StatusResponseMessage (10.6.1)
unfoldable pub status_members : ℕ → Trees
status_members code = more (number 0 code) revision

-- ReportDataMessage (10.6.3): MoreChunkedMessages true, or SuppressResponse true
unfoldable pub report_ending : Bool → Trees
report_ending more-follow = more (flag (pick more-follow 3 4) true) revision

-- the array of blocks is absent if there is none
unfoldable pub report_members : List Tree → Bool → Trees
report_members [] more-follow = report_ending more-follow
report_members (t ∷ l) more-follow = more (container (context 1) array (members (t ∷ l))) (report_ending more-follow)

-- a report's octets before its blocks, and after them
unfoldable pub report_opening : List ℕ
report_opening = open_octets Anonymous structure ++ open_octets (Context 1) array

unfoldable pub report_closing : Bool → List ℕ
report_closing more-follow = end_octets ++ spellings (report_ending more-follow)

-- WriteResponseMessage (10.6.7)
unfoldable pub response_members : List Tree → Trees
response_members l = more (container (context 0) array (members l)) revision

-- its octets before its statuses, and after them
unfoldable pub response_opening : List ℕ
response_opening = open_octets Anonymous structure ++ open_octets (Context 0) array

unfoldable pub response_closing : List ℕ
response_closing = end_octets ++ spellings revision

-- a tree that may stand in the array of a message: written by us, untagged, and within the depth of a message
pub record ListedTree (t : Tree) : Type 0 where
  pub ours : Ours t
  pub untagged : stands array (tag_of_tree t) ≡ true
  pub shallow : depth t ≤ depth_limit - 2
