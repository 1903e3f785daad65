-- The exchange that a server serves: how far it has come, the request being answered, the place reached, and the kept reply.
use Rattle.std.specs.Prelude.{Bool, true, ◌&&◌, List, [], ◌∷◌, ℕ, ◌+◌, leb, ltb, eqb, length, get_or, take, drop}
use Rattle.base_bounds.specs.Bounds.{attribute_limit, path_limit}
use Rattle.base_octets.specs.Store.{store}
use Rattle.tlv_reader.specs.Octet.{pick}
use Rattle.im_writer.specs.Envelope.{cache_edition, exchange_limit}
use Rattle.node_access.specs.declared.Grants.{Grants}
use Rattle.server_selection.specs.declared.asked.Asked.{Asked}
use Rattle.server_selection.specs.Request.{filters_at, standing_at, paths_in, filters_in, asked_paths}
use Rattle.im_exchange.specs.declared.Progress.{Progress}
use Rattle.im_exchange.specs.Rules.{max_turn, first_reply, nothing, part}
use Rattle.server_report.specs.declared.ReadPlace.{ReadPlace}
use Rattle.server_report.specs.declared.part.OpenRead.{OpenRead}
use Rattle.server_report.specs.Blocks.{PlacedBlock, view_of, attribute_phase, blocks_from}
use Rattle.server_report.specs.Chunk.{block_room, taken, left, after, any}
use Rattle.server_replies.specs.declared.ExchangeRow.{ExchangeRow}
use Rattle.server_replies.specs.declared.RowStanding.{RowStanding}
use Rattle.server_replies.specs.Messages.{envelope_length, max_message, report_message}
use Rattle.server_replies.specs.Server.{Server}

-- where the reply is kept in the bytes lent for it
abbrev pub kept_at : ℕ
kept_at = 0

-- a row that keeps a reply; none is silence
unfoldable pub keeping : ExchangeRow → Progress → OpenRead → ReadPlace → List ℕ → ExchangeRow
keeping x progress request place reply =
    record { progress = progress; request = request; place = place; kept = store x.kept kept_at reply; len = length reply }

-- the kept reply
abbrev pub kept_reply : ExchangeRow → List ℕ
kept_reply x = take x.len (drop kept_at x.kept)

-- what is asked for
abbrev pub paths_of : OpenRead → List Asked
paths_of r = asked_paths r.paths r.asked

-- the blocks of a request from a place on, as the server stands
abbrev pub blocks_of : Server → Grants → OpenRead → ReadPlace → List PlacedBlock
blocks_of s g r at = blocks_from (view_of s.schema s.state.values s.defaults s.state.edits g r.filters) (paths_of r) at

-- what a success for a part brings: the next one where more is promised
abbrev pub next_of : Bool → ℕ
next_of more = pick more part nothing

-- reply number `turn` of an exchange is the part from a place on; the row after it
abbrev pub reported : ExchangeRow → ℕ → ℕ → OpenRead → ReadPlace → List PlacedBlock → ExchangeRow
reported x exchange turn r at l =
    keeping x (record { last = exchange; turn = turn; next = next_of (any (left block_room l)); closed = 0 }) r (after at (taken block_room l))
    (report_message cache_edition exchange turn l)

-- RULES 3.13: reply k + 1
unfoldable pub next_part : Server → Grants → ExchangeRow
next_part s g =
    let x = s.state.row in
    reported x x.progress.last (x.progress.turn + 1) x.request x.place (blocks_of s g x.request x.place)

-- a kept reply: none, which is silence, or a message with its envelope
unfoldable pub kept_right : ℕ → Bool
kept_right len = pick (eqb len 0) true (leb envelope_length len && leb len max_message)

-- RULES 3.8: where no exchange was served there is no reply, nothing promised, closed or kept; where one was, it has a reply
unfoldable pub served_right : Progress → ℕ → Bool
served_right p len =
    pick (eqb p.last 0) (eqb p.turn 0 && (eqb p.next nothing && (eqb p.closed 0 && eqb len 0))) (leb first_reply p.turn)

-- refusal 2: numbers in their widths, the place reached, which is one of the request's, and of which nothing was sent, and the kept reply
unfoldable pub row_right : ExchangeRow → Bool
row_right x =
    ltb x.progress.last exchange_limit
    && (leb x.progress.turn max_turn
    && (leb x.progress.next part
    && (leb x.progress.closed 1
    && (leb x.request.asked path_limit
    && (eqb x.place.phase attribute_phase
    && (leb x.place.path x.request.asked
    && (leb x.place.index attribute_limit
    && (eqb x.place.sent 0 && (kept_right x.len && served_right x.progress x.len)))))))))

-- ---- A ROW AS IT IS LENT: the request in words, how the exchange stands behind it, the kept reply in bytes

abbrev pub request_in : List ℕ → ℕ → OpenRead
request_in row asked = record { paths = paths_in row; asked = asked; filters = filters_in row }

-- what goes by value
abbrev pub standing_of : ExchangeRow → RowStanding
standing_of x = record { progress = x.progress; asked = x.request.asked; place = x.place; len = x.len }

abbrev pub row_in : List ℕ → RowStanding → List ℕ → ExchangeRow
row_in row t kept = record { progress = t.progress; request = request_in row t.asked; place = t.place; kept = kept; len = t.len }

-- word i of how the exchange stands
abbrev pub standing_word : List ℕ → ℕ → ℕ
standing_word row i = get_or row (standing_at + i) 0

unfoldable pub standing_in : List ℕ → RowStanding
standing_in row =
    record {
      progress = record { last = standing_word row 0; turn = standing_word row 1; next = standing_word row 2; closed = standing_word row 3 };
      asked = standing_word row 4;
      place = record { phase = standing_word row 8; path = standing_word row 5; index = standing_word row 6; sent = standing_word row 9 };
      len = standing_word row 7;
    }

unfoldable pub standing_words : RowStanding → List ℕ
standing_words t =
    t.progress.last ∷ t.progress.turn ∷ t.progress.next ∷ t.progress.closed ∷ t.asked ∷ t.place.path ∷ t.place.index ∷ t.len
    ∷ t.place.phase ∷ t.place.sent ∷ []

-- any words and bytes are some row's
abbrev pub row_of : List ℕ → List ℕ → ExchangeRow
row_of row kept = row_in row (standing_in row) kept

-- a row stored over the words of another
unfoldable pub put_request : List ℕ → OpenRead → List ℕ
put_request row r = store (store row 0 r.paths) filters_at r.filters

unfoldable pub put_row : List ℕ → ExchangeRow → List ℕ
put_row row x = store (put_request row x.request) standing_at (standing_words (standing_of x))
