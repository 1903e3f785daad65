-- WHAT A CACHE'S READ ASKS, as a server's row has it: everything, with the filters that were given; its first part and its next ones.
use mathlib.Core.Path.{◌≡◌, refl, sym, ap}
use mathlib.Core.List.{List, [], ◌∷◌}
use Prim.Native.Nat.{ℕ, suc, ◌+◌, ◌-◌, ◌^◌, ◌≤◌, ◌<◌}
use native.Mathlib.Omega.{arith}
use borrow.Author.Tests.{le-ltb}
use native.Mathlib.Numerals.{add-one}
use lib.ListN.{length, get_or}
use Rattle.base_bounds.specs.Bounds.{filter_limit}
use Rattle.tlv_reader.specs.Value.{Datum}
use Rattle.im_requests.specs.declared.VersionFilter.{VersionFilter}
use Rattle.im_requests.specs.Message.{first_of}
use Rattle.im_requests.specs.Read.{unwanted, read_in, read_read}
use Rattle.node_schema.specs.Rows.{count_of_attributes, rows_from}
use Rattle.node_access.specs.declared.Grants.{Grants}
use Rattle.server_selection.specs.Asked.{asked_for}
use Rattle.server_selection.specs.Filters.{filter_words}
use Rattle.server_selection.specs.Request.{paths_words}
use Rattle.proof_round_trip.specs.Meant.{everything, read_answer}
use Rattle.server_report.specs.declared.ReadPlace.{ReadPlace}
use Rattle.server_report.specs.declared.part.OpenRead.{OpenRead}
use Rattle.server_report.specs.Blocks.{start_of}
use Rattle.im_exchange.specs.Rules.{max_turn}
use Rattle.server_writes.proofs.StatusLaws.{take-first}
use Rattle.server_replies.specs.Server.{ServerReaction, with_row}
use Rattle.server_replies.specs.Row.{paths_of, blocks_of, reported, next_part}
use Rattle.server_replies.specs.Refusal.{refusal_code, read_refusal}
use Rattle.server_replies.specs.Begin.{beginning_place, request_of, read_begun}
use Rattle.server_replies.proofs.RowLaws.{row-right}
use Rattle.server_replies.proofs.BeginLaws.{read-answered}
use Rattle.server.specs.Receive.{replied}
use Rattle.proof_protocol.specs.Model.{Part, changes_of, part_of, send}
use Rattle.proof_refinement.specs.Terms.{readable_from, node_of, filters_as}
use Rattle.proof_refinement.specs.Server.{Going}
use Rattle.im_writer.specs.Envelope.{exchange_limit}
use Rattle.proof_server_steps.proofs.Standing.{Standing, right_of}
use Rattle.proof_server_steps.proofs.ServeLaws.{Serving, Valid}
use Rattle.proof_server_steps.proofs.PartLaws.{part-served}

-- the request of a read with these filters
module _ (w : List ℕ) (fs : List VersionFilter) where
  abbrev request : OpenRead
  request = request_of w (read_answer fs)

  all_asked : paths_of request ≡ asked_for everything ∷ []
  unfolding request_of first_of paths_words rows_from
  all_asked = refl

  filters-judged : length fs ≤ filter_limit → request.filters ≡ filter_words w fs
  unfolding request_of
  filters-judged few = ap (filter_words w) (take-first filter_limit unwanted fs (length fs) refl few)

module _ {g : Grants} {sent : List (List ℕ)} (here : Standing g sent) (words-fit : (k : ℕ) → get_or here.server.schema k 0 < 2 ^ 64) where
  open here use {server as n, system as sys, stands}

  -- THE FIRST PART
  module _ (start : List ℕ) (x : ℕ) (fx : x < exchange_limit) (fs : List VersionFilter) (few : length fs ≤ filter_limit) (payload : List ℕ) (read : read_read (read_in payload) ≡ read_answer fs) where
    abbrev begun : ServerReaction
    begun = replied (with_row n.state (read_begun n g x payload))

    -- the protocol's, of so many entries
    abbrev first : ℕ → Part Datum
    first size = part_of sys.clusters x 1 (node_of n.schema n.defaults start g).readable (filters_as n.schema fs) (changes_of sys.clusters) size

    not-refused : read_refusal (read_answer fs) ≡ 0
    unfolding refusal_code
    not-refused = rw (le-ltb filter_limit (length fs) few) refl

    begun-as : read_begun n g x payload ≡ reported n.state.row x 1 (request n.schema fs) beginning_place (blocks_of n g (request n.schema fs) beginning_place)
    begun-as = read-answered payload (sym read) n g x not-refused

    same_first : (size : ℕ) → part_of sys.clusters x 1 (readable_from n.schema g (count_of_attributes n.schema - 0) 0) (filters_as n.schema fs) (changes_of sys.clusters) size ≡ first size
    same_first size =
        let whole : count_of_attributes n.schema - 0 ≡ count_of_attributes n.schema = omega arith in
        rw whole

    pub first-served : Valid here begun → (size : ℕ) × Serving here (send sys (first size)) begun
    first-served valid =
        let (size, m) = part-served here words-fit x 1 (request n.schema fs) 0 (all_asked n.schema fs) fs (filters-judged n.schema fs few) fx (omega arith) (changes_of sys.clusters) (rw begun-as at valid) in
        (size, rw (begun-as, ← (same_first size)) m)

  -- THE NEXT PART, of a read that goes on
  module _ (going : Going n.schema g n.state.row sys.row) (left : sys.row.turn < max_turn) (x : ℕ) (own : x ≡ sys.row.exchange) where
    abbrev after : ServerReaction
    after = replied (with_row n.state (next_part n g))

    abbrev next : ℕ → Part Datum
    next size = part_of sys.clusters x (suc sys.row.turn) sys.row.ahead sys.row.filters sys.row.since size

    abbrev from : ReadPlace
    from = start_of 0 n.state.row.place.index

    same_place_lem : n.state.row.place ≡ from
    same_place_lem = let r = row-right n.state.row (right_of here).row in λ j. record { phase = r.phase j; path = going.path j; index = n.state.row.place.index; sent = r.sent j }

    after-as : next_part n g ≡ reported n.state.row n.state.row.progress.last (n.state.row.progress.turn + 1) n.state.row.request from (blocks_of n g n.state.row.request from)
    unfolding next_part
    after-as = rw same_place_lem

    same_next : (size : ℕ) → part_of sys.clusters n.state.row.progress.last (n.state.row.progress.turn + 1) (readable_from n.schema g (count_of_attributes n.schema - n.state.row.place.index) n.state.row.place.index) (filters_as n.schema going.asked) sys.row.since size ≡ next size
    same_next size = rw (own, stands.row.exchange, stands.row.turn, going.ahead, going.filters, add-one)

    pub next-served : Valid here after → (size : ℕ) × Serving here (send sys (next size)) after
    next-served valid =
        let l = (row-right n.state.row (right_of here).row).exchange in
        let (size, m) = part-served here words-fit n.state.row.progress.last (n.state.row.progress.turn + 1) n.state.row.request n.state.row.place.index going.paths going.asked going.judged l (omega (arith, left, stands.row.turn)) sys.row.since (rw after-as at valid) in
        (size, rw (after-as, ← (same_next size)) m)
