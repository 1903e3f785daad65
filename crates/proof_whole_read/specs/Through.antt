-- A READ OF A SERVER THAT NOBODY ELSE TOUCHES (RULES 3.6 to 3.13, 5.10 to 5.12): the request, and then a success for each reply that promises more.
use Rattle.std.specs.Prelude.{◌≡◌, Bool, true, false, List, [], ◌∷◌, ◌++◌, ℕ, zero, suc, ◌+◌, ◌≤◌, ◌<◌, eqb, length, get_or, drop, Some}
use Rattle.tlv_reader.specs.Octet.{pick}
use Rattle.im_requests.specs.Read.{read_in, read_read}
use Rattle.im_envelope.specs.declared.Fields.{Fields}
use Rattle.im_envelope.specs.Envelope.{envelope_in}
use Rattle.im_writer.specs.Envelope.{cache_edition, envelope_octets}
use Rattle.im_writer.specs.Spelling.{spelling}
use Rattle.im_writer.specs.Message.{message_tree, report_members}
use Rattle.im_exchange.specs.Rules.{read_opcode, report_opcode, part}
use Rattle.node_schema.specs.Layout.{subject_word}
use Rattle.server_report.specs.Blocks.{PlacedBlock, view_of}
use Rattle.server_report.specs.Chunk.{trees}
use Rattle.server_report.specs.Part.{parts_from}
use Rattle.server_replies.specs.Messages.{envelope_length, max_message, status_message}
use Rattle.server_replies.specs.Server.{Server, Caller, ServerReaction, with_state}
use Rattle.server_replies.specs.Row.{paths_of}
use Rattle.server_replies.specs.Refusal.{read_refusal}
use Rattle.server_replies.specs.Begin.{request_of, beginning_place}
use Rattle.server.specs.Receive.{received}

-- what was answered, and where the server stands then
pub record Answers : Type 0 where
  pub replies : List (List ℕ)
  pub server : Server

-- a success for the newest reply of the exchange that is served
abbrev pub success_for : Server → List ℕ
success_for s = status_message cache_edition s.state.row.progress.last s.state.row.progress.turn 0

-- a call, and what comes after it
abbrev pub and_then : Server → ServerReaction → (Server → Answers) → Answers
and_then s r f = record { replies = r.reply ∷ (f (with_state s r.state)).replies; server = (f (with_state s r.state)).server }

-- n successes, as long as more is promised
unfoldable pub goes_on : ℕ → Caller → Server → Answers
goes_on zero c s = record { replies = []; server = s }
goes_on (suc n) c s =
    pick (eqb s.state.row.progress.next part) (and_then s (received s c (success_for s) max_message) (goes_on n c))
    (record { replies = []; server = s })

-- a request, and then n successes
abbrev pub read_through : ℕ → Caller → Server → List ℕ → Answers
read_through n c s m = and_then s (received s c m max_message) (goes_on n c)

-- reply number k of an exchange with these blocks
abbrev pub part_message : ℕ → ℕ → List PlacedBlock → Bool → List ℕ
part_message exchange k p more =
    envelope_octets cache_edition report_opcode exchange k ++ spelling (message_tree (report_members (trees p) more))

abbrev pub some : List (List PlacedBlock) → Bool
some [] = false
some (p ∷ l) = true

-- the replies that carry these parts, from number k on: each but the last promises more
unfoldable pub messages_of : ℕ → ℕ → List (List PlacedBlock) → List (List ℕ)
messages_of exchange k [] = []
messages_of exchange k (p ∷ l) = part_message exchange k p (some l) ∷ messages_of exchange (k + 1) l

-- a Read Request of the one who is served, in an exchange above the last, that is not refused
pub record Asks (s : Server) (c : Caller) (m : List ℕ) (e : Fields) : Type 0 where
  pub found : envelope_in m ≡ Some e
  pub fits : length m ≤ max_message
  pub edition : e.edition ≡ cache_edition
  pub opcode : e.opcode ≡ read_opcode
  pub turn : e.turn ≡ 0
  pub newer : s.state.row.progress.last < e.exchange
  pub ours : c.subject ≡ get_or s.schema subject_word 0
  pub taken : read_refusal (read_read (read_in (drop envelope_length m))) ≡ 0

-- the parts of what it asks for, the first n of them, as the server stands
abbrev pub parts_of : ℕ → Caller → Server → List ℕ → List (List PlacedBlock)
parts_of n c s m =
    let q = request_of s.schema (read_read (read_in (drop envelope_length m))) in
    parts_from (view_of s.schema s.state.values s.defaults s.state.edits c.grants q.filters) (paths_of q) n beginning_place
