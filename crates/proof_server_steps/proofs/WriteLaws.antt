-- A WRITE of the cache, of one entry: at most one change of the protocol, and an answer that is no part of a report.
use mathlib.Core.Path.{◌≡◌, refl, sym, ap, ◌∙◌}
use mathlib.Core.Logic.{inl, inr}
use mathlib.Core.Bool.{Bool, not, true≢false}
use mathlib.Core.List.{List, [], ◌∷◌, Memᴰ}
use Prim.Native.Nat.{ℕ, ◌<◌}
use native.Mathlib.Omega.{arith}
use lib.Dec.{eqb}
use lib.ListN.{length, drop}
use Rattle.tlv_reader.specs.Octet.{pick}
use Rattle.tlv_reader.specs.Value.{Datum, value_in}
use Rattle.im_members.specs.Scalar.{ABSENT}
use Rattle.im_requests.specs.Message.{first_of}
use Rattle.im_requests.specs.declared.write.WriteEntry.{WriteEntry}
use Rattle.im_requests.specs.Write.{WriteRequest}
use Rattle.im_requests.specs.Write.{write_in, write_read}
use Rattle.node_kinds.proofs.SizedLaws.{value-in-sized}
use Rattle.node_access.specs.declared.Grants.{Grants}
use Rattle.proof_round_trip.specs.Meant.{write_answer, WriteStatus, OutcomeFits}
use Rattle.server_writes.specs.Offer.{HeldValues}
use Rattle.server_writes.specs.Entry.{may_write, entry_written, held_after, codes_of}
use Rattle.server_writes.specs.Response.{answer_trees, response_payload}
use Rattle.server_writes.proofs.EntryLaws.{may-index}
use Rattle.server_writes.proofs.StatusLaws.{codes-octets}
use Rattle.cache_messages.specs.Messages.{write_message}
use Rattle.im_exchange.specs.declared.Progress.{Progress}
use Rattle.server_replies.specs.Messages.{envelope_length, max_message, response_message}
use Rattle.server_replies.specs.Server.{ServerState, held_by}
use Rattle.server_replies.specs.Row.{keeping, kept_reply}
use Rattle.server_replies.specs.Refusal.{refusal_code, write_refusal}
use Rattle.server_replies.specs.Begin.{answered, response_to, write_by, write_begun, refusal_of}
use Rattle.server_replies.proofs.KeptLaws.{keeping-whole, write-reply}
use Rattle.server.specs.Receive.{replied}
use Rattle.proof_protocol.specs.Model.{System, Store, store_all, written}
use Rattle.proof_refinement.specs.Bytes.{WriteFits, answer_bytes, answers}
use Rattle.proof_refinement.specs.Server.{promised, RowAs}
use Rattle.im_writer.specs.Envelope.{cache_edition, exchange_limit}
use Rattle.proof_server_steps.proofs.Standing.{Standing}
use Rattle.proof_server_steps.proofs.ChangeLaws.{Reached, placed-as, stored-beside}
use Rattle.proof_server_steps.proofs.ServeLaws.{Serving, Valid}

module _ {g : Grants} {sent : List (List ℕ)} (here : Standing g sent) (x : ℕ) (fx : x < exchange_limit) (given : Bool) (version e c a : ℕ) (d : Datum) (fits : WriteFits version e c a d) where
  open here use {server as n, system as sys, stands}

  abbrev now : HeldValues
  now = held_by n.state

  abbrev payload : List ℕ
  payload = drop envelope_length (write_message cache_edition x given version e c a d)

  -- what the server has read, and what it makes of it
  module _ (at : ℕ) (read : write_read (write_in payload) ≡ write_answer given version e c a at) (there : Memᴰ (write_message cache_edition x given version e c a d) sent) where
    abbrev entry : WriteEntry
    entry = record { version = pick given version ABSENT; endpoint = e; cluster = c; attribute = a; place = at }

    abbrev begun : ServerState
    begun = write_begun n g x payload

    abbrev outcome : WriteStatus
    outcome = record { endpoint = e; cluster = c; attribute = a; code = (entry_written n.schema g n.defaults payload now entry).code }

    begun-held : held_by begun ≡ (entry_written n.schema g n.defaults payload now entry).held
    unfolding refusal_code write_begun held_after first_of
    begun-held = ap (λ (q : WriteRequest). held_by (write_by n g x payload q)) read

    begun-progress : begun.row.progress ≡ answered x
    unfolding refusal_code write_begun keeping first_of
    begun-progress = ap (λ (q : WriteRequest). (write_by n g x payload q).row.progress) read

    begun-whole : length begun.row.kept ≡ max_message
    unfolding refusal_code write_begun first_of
    begun-whole =
        ap (λ (q : WriteRequest). length (write_by n g x payload q).row.kept) read ∙ keeping-whole n.state.row _ _ _ _ ∙ stands.row.whole

    begun-reply : kept_reply begun.row ≡ answer_bytes x outcome
    unfolding refusal_code codes_of first_of response_message response_payload answer_trees answer_bytes
    begun-reply =
        write-reply n g stands.row.whole x payload
        ∙ ap (λ (q : WriteRequest). pick (eqb (write_refusal q) 0) (response_to n g x payload q) (refusal_of x (write_refusal q))) read

    outcome_fits : OutcomeFits outcome
    unfolding codes_of
    outcome_fits = record { path-fits = fits.path; code_fits = codes-octets n.schema g n.defaults payload now (entry ∷ []) 0 (omega arith) }

    row_as : (t : System Datum) → RowAs n.schema g sent begun.row (written t x).row
    unfolding written
    row_as t =
        record {
          exchange = sym (ap (λ (p : Progress). p.last) begun-progress);
          turn = sym (ap (λ (p : Progress). p.turn) begun-progress);
          more = sym (ap promised begun-progress);
          closed = sym (ap (λ (p : Progress). not (eqb p.closed 0)) begun-progress);
          going = λ h. absurd (true≢false (sym h));
          kept = answers x outcome begun-reply refl fx outcome_fits (record { given = given; version = version; value = d; fits = fits; there = there });
          whole = begun-whole;
        }

    reached : Reached here (entry_written n.schema g n.defaults payload now entry).held
    unfolding entry_written
    reached =
        placed-as here payload (value_in payload at) (value-in-sized payload at) (may_write n.schema g n.state.values.versions entry)
        (may-index n.schema g n.state.values.versions entry)

    -- A WRITE, served
    pub write-served : Valid here (replied begun) → (stores : List (Store Datum)) × Serving here (written (store_all sys stores) x) (replied begun)
    unfolding written
    write-served valid =
        let (t, h) = rw (← begun-held) at reached in
        let (stores, is) = h.stored in
        let b = stored-beside sys t h.stored in (
          stores,
          rw (← is) (record {
            server = record { valid = valid; versions-fit = h.versions-fit; held = h.held; row = row_as t };
            made = [];
            reply-is = (row_as t).kept;
            parts = b.parts;
            cache = b.cache;
            messages = b.messages;
            counted = h.counted;
          }),
        )
