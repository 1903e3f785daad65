-- One part of a report.
use Rattle.std.specs.Prelude.{◌≡◌, List, [], ◌∷◌, ◌++◌, ℕ, zero, suc}
use Rattle.base_octets.specs.Store.{Stored}
use Rattle.tlv_reader.specs.Octet.{pick}
use Rattle.im_writer.specs.Spelling.{spelling, joined}
use Rattle.im_writer.specs.Message.{message_tree, report_members}
use Rattle.server_selection.specs.declared.asked.Asked.{Asked}
use Rattle.server_report.specs.declared.ReadPlace.{ReadPlace}
use Rattle.server_report.specs.declared.Filled.{Filled}
use Rattle.server_report.specs.Blocks.{View, PlacedBlock, blocks_from}
use Rattle.server_report.specs.Chunk.{block_room, taken, left, after, any, trees}

-- the payload of the part that takes what it can of these blocks
unfoldable pub part_payload : List PlacedBlock → List ℕ
part_payload l = spelling (message_tree (report_members (trees (taken block_room l)) (any (left block_room l))))

-- blocks stored one after the other from a place of the buffer on, as many as there is room for
pub record Filling (old : List ℕ) (start room : ℕ) (at : ReadPlace) (l : List PlacedBlock) (new : List ℕ) (r : Filled) : Type 0 where
  pub stored : Stored old start (joined (trees (taken room l))) new r.end
  pub place : r.place ≡ after at (taken room l)
  pub more : r.more ≡ any (left room l)

-- a whole part from there on
pub record Made (old : List ℕ) (start : ℕ) (at : ReadPlace) (l : List PlacedBlock) (new : List ℕ) (r : Filled) : Type 0 where
  pub stored : Stored old start (part_payload l) new r.end
  pub place : r.place ≡ after at (taken block_room l)
  pub more : r.more ≡ any (left block_room l)

-- THE PARTS of a list of blocks, the first n of them: each takes what it can, and while something is left there is a further one
unfoldable pub parts : ℕ → List PlacedBlock → List (List PlacedBlock)
parts zero l = []
parts (suc n) l = taken block_room l ∷ pick (any (left block_room l)) (parts n (left block_room l)) []

-- the parts of a request from a place on, in the same view: each goes on from the place after the one before it
unfoldable pub parts_from : View → List Asked → ℕ → ReadPlace → List (List PlacedBlock)
parts_from s ps zero at = []
parts_from s ps (suc n) at =
    taken block_room (blocks_from s ps at)
    ∷ pick (any (left block_room (blocks_from s ps at))) (parts_from s ps n (after at (taken block_room (blocks_from s ps at)))) []

-- the blocks of parts, one after the other
unfoldable pub together : List (List PlacedBlock) → List PlacedBlock
together [] = []
together (p ∷ ps) = p ++ together ps
