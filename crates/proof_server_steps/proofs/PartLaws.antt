-- A PART of the read of everything: the row that keeps it stands for the protocol's.
use mathlib.Core.Path.{◌≡◌, refl, ap, ◌∙◌}
use mathlib.Core.Bool.{Bool, true, false, not}
use mathlib.Core.List.{List, [], ◌∷◌}
use Prim.Native.Nat.{ℕ, ◌-◌, ◌^◌, ◌<◌}
use lib.Dec.{eqb}
use lib.ListN.{length, get_or}
use Rattle.tlv_reader.specs.Value.{Datum}
use Rattle.im_requests.specs.declared.VersionFilter.{VersionFilter}
use Rattle.node_schema.specs.Rows.{count_of_attributes}
use Rattle.node_access.specs.declared.Grants.{Grants}
use Rattle.server_selection.specs.Asked.{asked_for}
use Rattle.server_selection.specs.Filters.{filter_words}
use Rattle.im_exchange.specs.Rules.{nothing}
use Rattle.proof_round_trip.specs.Meant.{everything}
use Rattle.server_report.specs.declared.ReadPlace.{ReadPlace}
use Rattle.server_report.specs.declared.part.OpenRead.{OpenRead}
use Rattle.server_report.specs.Blocks.{PlacedBlock, view_of, start_of, blocks_from}
use Rattle.server_replies.specs.declared.ExchangeRow.{ExchangeRow}
use Rattle.server_replies.specs.Messages.{max_message, report_message}
use Rattle.server_replies.specs.Server.{with_row, with_state}
use Rattle.server_replies.specs.Row.{keeping, kept_reply, paths_of, blocks_of, next_of, reported}
use Rattle.server_replies.proofs.MessageLaws.{report-length}
use Rattle.server_replies.proofs.RowLaws.{kept_back}
use Rattle.server_replies.proofs.KeptLaws.{keeping-whole}
use Rattle.server.specs.Receive.{replied}
use Rattle.server.specs.Valid.{ValidServer}
use Rattle.proof_protocol.specs.Model.{Part, part_of, row_after, send}
use Rattle.proof_refinement.specs.Terms.{readable_from, filters_as}
use Rattle.proof_refinement.specs.Bytes.{reports}
use Rattle.proof_refinement.specs.Server.{RowAs}
use Rattle.proof_server_parts.proofs.PartLaws.{Makes, part-made}
use Rattle.im_writer.specs.Envelope.{cache_edition, exchange_limit}
use Rattle.server.proofs.ServerLaws.{schema-of}
use Rattle.proof_server_steps.proofs.Standing.{Standing, right_of}
use Rattle.proof_server_steps.proofs.ServeLaws.{Serving, part-as}

-- what a success then brings says whether more is promised
next-promised : (more : Bool) → more ≡ not (eqb (next_of more) nothing)
next-promised true = refl
next-promised false = refl

module _ {g : Grants} {sent : List (List ℕ)} (here : Standing g sent) (words-fit : (k : ℕ) → get_or here.server.schema k 0 < 2 ^ 64) where
  open here use {server as n, system as sys, stands}

  -- a request for everything with these filters, and the place that it has come to
  module _ (x turn : ℕ) (q : OpenRead) (index : ℕ) (all : paths_of q ≡ asked_for everything ∷ []) (fs : List VersionFilter) (judged : q.filters ≡ filter_words n.schema fs) where
    abbrev at : ReadPlace
    at = start_of 0 index

    abbrev blocks : List PlacedBlock
    blocks = blocks_of n g q at

    -- the row that keeps the part
    abbrev row : ExchangeRow
    row = reported n.state.row x turn q at blocks

    -- the part of the protocol, of so many entries
    abbrev part : (ℕ → ℕ) → ℕ → Part Datum
    part since size = part_of sys.clusters x turn (readable_from n.schema g (count_of_attributes n.schema - index) index) (filters_as n.schema fs) since size

    abbrev Made : Part Datum → Type 0
    Made = Makes n.schema n.defaults n.state.edits n.state.values g fs sys.clusters (schema-of here.server (right_of here)) (right_of here).values stands.versions-fit words-fit stands.held x turn index

    same_blocks : blocks ≡ blocks_from (view_of n.schema n.state.values n.defaults n.state.edits g (filter_words n.schema fs)) (asked_for everything ∷ []) at
    same_blocks = λ j. blocks_from (view_of n.schema n.state.values n.defaults n.state.edits g (judged j)) (all j) at

    kept-bytes : kept_reply row ≡ report_message cache_edition x turn blocks
    kept-bytes = kept_back n.state.row stands.row.whole _ _ _ _ (report-length cache_edition x turn blocks)

    kept_whole : length row.kept ≡ max_message
    kept_whole = keeping-whole n.state.row _ _ _ _ ∙ stands.row.whole

    row_as : (since : ℕ → ℕ) (size : ℕ) → Made (part since size) → RowAs n.schema g sent row (row_after (part since size))
    unfolding keeping part_of
    row_as since size m =
        record {
          exchange = refl;
          turn = refl;
          more = rw same_blocks (m.more ∙ next-promised _);
          closed = refl;
          going = λ h. record { paths = all; asked = fs; judged = judged; filters = refl; path = rw same_blocks (m.path h); ahead = rw same_blocks (m.ahead h) };
          kept = reports (part since size) (kept-bytes ∙ ap (report_message cache_edition x turn) same_blocks ∙ m.bytes) refl m.right;
          whole = kept_whole;
        }

    -- A PART is made, and the server replies with it
    pub part-served : x < exchange_limit → turn < 2 ^ 16 → (since : ℕ → ℕ) → ValidServer (with_state n (with_row n.state row)) → (size : ℕ) × Serving here (send sys (part since size)) (replied (with_row n.state row))
    part-served fx ft since valid =
        let (size, m) = part-made n.schema n.defaults n.state.edits n.state.values g fs sys.clusters (schema-of here.server (right_of here)) (right_of here).values stands.versions-fit words-fit stands.held x turn index since fx ft in
        (size, part-as here row (part since size) valid (row_as since size m))
