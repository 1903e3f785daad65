-- A request that begins an exchange (RULES 5 and 6.10).
use Rattle.std.specs.Prelude.{List, [], ℕ, eqb, length, take, ◌≡◌}
use Rattle.base_octets.specs.Store.{store}
use Rattle.tlv_reader.specs.Octet.{pick}
use Rattle.im_requests.specs.Read.{ReadRequest}
use Rattle.im_requests.specs.Read.{read_in, read_read}
use Rattle.im_requests.specs.declared.write.WriteEntry.{WriteEntry}
use Rattle.im_requests.specs.Write.{WriteRequest}
use Rattle.im_requests.specs.Write.{write_in, write_read}
use Rattle.im_writer.specs.Envelope.{cache_edition}
use Rattle.node_access.specs.declared.Grants.{Grants}
use Rattle.server_selection.specs.Request.{paths_words}
use Rattle.server_selection.specs.Filters.{filter_words}
use Rattle.im_exchange.specs.declared.Progress.{Progress}
use Rattle.im_exchange.specs.Rules.{first_reply, nothing}
use Rattle.server_report.specs.declared.ReadPlace.{ReadPlace}
use Rattle.server_report.specs.declared.part.OpenRead.{OpenRead}
use Rattle.server_report.specs.Blocks.{start_of}
use Rattle.server_writes.specs.Offer.{HeldValues}
use Rattle.server_writes.specs.Entry.{held_after, codes_of}
use Rattle.server_replies.specs.declared.ExchangeRow.{ExchangeRow}
use Rattle.server_replies.specs.declared.RowStanding.{RowStanding}
use Rattle.server_replies.specs.Refusal.{read_refusal, write_refusal}
use Rattle.server_replies.specs.Messages.{status_message, response_message}
use Rattle.server_replies.specs.Server.{ServerState, Server, held_by, state_with, with_row}
use Rattle.server_replies.specs.Row.{keeping, kept_reply, reported, blocks_of, standing_of, put_request}

-- an exchange whose one reply was given, and that promised nothing
abbrev pub answered : ℕ → Progress
answered exchange = record { last = exchange; turn = first_reply; next = nothing; closed = 0 }

-- one reply, of which nothing goes on: a status, a write response, or silence
abbrev pub once : ExchangeRow → ℕ → List ℕ → ExchangeRow
once x exchange reply = keeping x (answered exchange) x.request x.place reply

-- RULES 6.10: a Status Response at turn 1
abbrev pub refusal_of : ℕ → ℕ → List ℕ
refusal_of exchange code = status_message cache_edition exchange first_reply code

abbrev pub beginning_place : ReadPlace
beginning_place = start_of 0 0

-- what is kept of a read: its paths, and what its filters say of each cluster
unfoldable pub request_of : List ℕ → ReadRequest → OpenRead
request_of w r =
    record {
      paths = paths_words r.paths.kept;
      asked = r.paths.count;
      filters = filter_words w (take r.filters.count r.filters.kept);
    }

-- a read: a status if it is refused whole, else reply 1
abbrev pub read_by : Server → Grants → ℕ → ReadRequest → ExchangeRow
read_by s g exchange r =
    let q = request_of s.schema r in
    pick (eqb (read_refusal r) 0) (reported s.state.row exchange first_reply q beginning_place (blocks_of s g q beginning_place))
    (once s.state.row exchange (refusal_of exchange (read_refusal r)))

unfoldable pub read_begun : Server → Grants → ℕ → List ℕ → ExchangeRow
read_begun s g exchange payload = read_by s g exchange (read_read (read_in payload))

abbrev pub entries_of : WriteRequest → List WriteEntry
entries_of r = take r.entries.count r.entries.kept

-- RULES 5.16 and 5.17: silence where it is asked for, but not for a refusal of the whole
abbrev pub response_to : Server → Grants → ℕ → List ℕ → WriteRequest → List ℕ
response_to s g exchange payload r =
    pick (eqb r.suppress 1) []
    (response_message cache_edition exchange first_reply (entries_of r) (codes_of s.schema g s.defaults payload (held_by s.state) (entries_of r)))

abbrev pub write_by : Server → Grants → ℕ → List ℕ → WriteRequest → ServerState
write_by s g exchange payload r =
    pick (eqb (write_refusal r) 0)
    (state_with (held_after s.schema g s.defaults payload (held_by s.state) (entries_of r)) (once s.state.row exchange (response_to s g exchange payload r)))
    (with_row s.state (once s.state.row exchange (refusal_of exchange (write_refusal r))))

-- a write: nothing stored if it is refused whole
unfoldable pub write_begun : Server → Grants → ℕ → List ℕ → ServerState
write_begun s g exchange payload = write_by s g exchange payload (write_read (write_in payload))

-- as the code has it: how the exchange stands, the request in the row's words, the kept reply, and the reply in the buffer
pub record Begins (x : ExchangeRow) (t : RowStanding) (row new_row kept old new : List ℕ) : Type 0 where
  pub standing : t ≡ standing_of x
  pub request : new_row ≡ put_request row x.request
  pub reply : kept ≡ x.kept
  pub buffer : new ≡ store old 0 (kept_reply x)
  pub full : length (kept_reply x) ≡ x.len

-- and what is held
pub record Wrote (u : ServerState) (t : RowStanding) (h : HeldValues) (row new_row kept old new : List ℕ) : Type 0 where
  pub held : h ≡ held_by u
  pub begins : Begins u.row t row new_row kept old new
