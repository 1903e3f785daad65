-- The messages that a cache sends: an envelope and a payload (RULES 3 and 7).
use Rattle.std.specs.Prelude.{Bool, List, ◌++◌, map, ℕ}
use Rattle.tlv_reader.specs.Value.{Datum}
use Rattle.im_exchange.specs.Rules.{status_opcode, read_opcode, write_opcode}
use Rattle.im_requests.specs.declared.VersionFilter.{VersionFilter}
use Rattle.im_writer.specs.Envelope.{envelope_octets}
use Rattle.im_writer.specs.Spelling.{spelling}
use Rattle.im_writer.specs.Message.{message_tree, status_members}
use Rattle.im_request_writer.specs.Request.{read_members, write_members, entry_tree}
use Rattle.cache_messages.specs.Filters.{filter_tree_of}

-- a request's turn is 0 (RULES 3.5)
unfoldable pub read_message : ℕ → ℕ → List VersionFilter → List ℕ
read_message edition exchange fs = envelope_octets edition read_opcode exchange 0 ++ spelling (message_tree (read_members (map filter_tree_of fs)))

unfoldable pub write_message : ℕ → ℕ → Bool → ℕ → ℕ → ℕ → ℕ → Datum → List ℕ
write_message edition exchange given version endpoint cluster attribute d =
    envelope_octets edition write_opcode exchange 0 ++ spelling (message_tree (write_members (entry_tree given version endpoint cluster attribute d)))

-- a success has the turn of the reply that it is for (RULES 3.7)
unfoldable pub success_message : ℕ → ℕ → ℕ → List ℕ
success_message edition exchange turn = envelope_octets edition status_opcode exchange turn ++ spelling (message_tree (status_members 0))
