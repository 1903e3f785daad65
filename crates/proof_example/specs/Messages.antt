-- The messages of the run.
use Rattle.std.specs.Prelude.{Bool, true, false, List, [], ◌∷◌, ◌++◌, map, ℕ, length, drop}
use Rattle.tlv_reader.specs.Value as value
use Rattle.im_writer.specs.Envelope.{cache_edition, envelope_octets}
use Rattle.im_writer.specs.Spelling.{spelling}
use Rattle.im_writer.specs.Block.{Block, block_tree}
use Rattle.im_writer.specs.Message.{message_tree, report_members}
use Rattle.im_exchange.specs.Rules.{report_opcode}
use Rattle.cache_messages.specs.Messages.{read_message, success_message}
use Rattle.proof_example.specs.Plan.{text}

-- of exchange 1: the request, and the success for reply 1
unfoldable pub request : List ℕ
request = read_message cache_edition 1 []

unfoldable pub success : List ℕ
success = success_message cache_edition 1 1

-- a text of a cluster of endpoint 1, at a version
abbrev shown : ℕ → ℕ → ℕ → List ℕ → Block
shown version cluster attribute bytes = Block.value version 1 cluster attribute (value.text bytes)

-- the reply of a turn with these blocks, and whether it promises more
abbrev part_of : ℕ → List Block → Bool → List ℕ
part_of turn blocks more = envelope_octets cache_edition report_opcode 1 turn ++ spelling (message_tree (report_members (map block_tree blocks) more))

-- cluster 6 whole, and two texts of cluster 8; more is promised
unfoldable pub part1 : List ℕ
part1 =
    part_of 1
    (shown 5 6 0 (text 0x41) ∷ shown 5 6 1 (text 0x42) ∷ shown 0xFFFF_FFFF 8 0 (text 0x43) ∷ shown 0xFFFF_FFFF 8 1 (text 0x44) ∷ [])
    true

-- the last text of cluster 8, which is NEW by then
abbrev pub new : List ℕ
new = 0x4E ∷ 0x45 ∷ 0x57 ∷ []

unfoldable pub part2 : List ℕ
part2 = part_of 2 (shown 0 8 2 new ∷ []) false

-- a message kept, and what is left of the one kept before it
abbrev pub kept_over : List ℕ → List ℕ → List ℕ
kept_over message kept = message ++ drop (length message) kept
