-- Chunking (RULES 5.10 to 5.12): over a list of blocks, whatever they mean and however they were found.
use Rattle.std.specs.Prelude.{Bool, true, false, List, [], ◌∷◌, ◌++◌, map, ℕ, ◌+◌, ◌-◌, ◌^◌, ◌<◌, leb, length}
use Rattle.base_bounds.specs.Bounds.{version_limit, payload_limit}
use Rattle.tlv_reader.specs.Octet.{pick}
use Rattle.tlv_reader.specs.Tree.{Tree}
use Rattle.im_writer.specs.Spelling.{spelling}
use Rattle.im_writer.specs.Block.{Block, block_tree, ShortText}
use Rattle.im_writer.specs.Meaning.{PathFits}
use Rattle.server_report.specs.declared.ReadPlace.{ReadPlace}
use Rattle.server_report.specs.Blocks.{PlacedBlock}

-- what a report has around its blocks, by whether more follows: 10 bytes in both cases, 3 of them the array's
abbrev pub frame_length : Bool → ℕ
frame_length more = 10

abbrev pub array_length : ℕ
array_length = 3

-- what is left for blocks where more follows
abbrev pub block_room : ℕ
block_room = payload_limit - frame_length true

abbrev pub size : PlacedBlock → ℕ
size x = length (spelling (block_tree x.block))

abbrev pub any : List PlacedBlock → Bool
any [] = false
any (x ∷ l) = true

-- THE LENGTH of the payload that has these blocks; with none it has no array
unfoldable pub sizes : List PlacedBlock → ℕ
sizes [] = 0
sizes (x ∷ l) = size x + sizes l

unfoldable pub payload_length : List PlacedBlock → Bool → ℕ
payload_length [] more = frame_length more - array_length
payload_length (x ∷ l) more = frame_length more + sizes (x ∷ l)

-- a block fits into this room; whether a further one follows it does not matter, as the frame is the same
abbrev pub fits : ℕ → PlacedBlock → Bool → Bool
fits room x more = leb (size x) room

-- the blocks that a part with this room takes, and those that it leaves
unfoldable pub taken : ℕ → List PlacedBlock → List PlacedBlock
taken room [] = []
taken room (x ∷ l) = pick (fits room x (any l)) (x ∷ taken (room - size x) l) []

unfoldable pub left : ℕ → List PlacedBlock → List PlacedBlock
left room [] = []
left room (x ∷ l) = pick (fits room x (any l)) (left (room - size x) l) (x ∷ l)

-- the rule as it stands, which `taken` follows with the room counted: what a part that has t takes of further blocks
unfoldable pub taken_after : List PlacedBlock → List PlacedBlock → List PlacedBlock
taken_after t [] = []
taken_after t (x ∷ l) =
    pick (leb (payload_length (t ++ (x ∷ [])) (any l)) payload_limit) (x ∷ taken_after (t ++ (x ∷ [])) l) []

-- RULES 5.10: where the next part goes on
unfoldable pub after : ReadPlace → List PlacedBlock → ReadPlace
after at [] = at
after at (x ∷ l) = after x.next l

abbrev pub trees : List PlacedBlock → List Tree
trees l = map (λ (x : PlacedBlock). block_tree x.block) l

-- a block with numbers in their widths (RULES 2.4, 2.5), and with a text of at most 200 bytes if it has one
unfoldable pub Short : Block → Type 0
Short (Block.value version e c a d) = (version < version_limit) × (PathFits e c a × ShortText d)
Short (Block.status e c a code) = PathFits e c a × (code < 2 ^ 8)
