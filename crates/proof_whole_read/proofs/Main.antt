-- THE REPLIES TO A READ ARE ITS PARTS, through `received`, and after the last no more is promised.
use mathlib.Core.Path.{◌≡◌, refl, sym, ap, subst, ◌∙◌}
use mathlib.Core.Bool.{Bool, true, false}
use mathlib.Core.List.{List, [], ◌∷◌}
use Prim.Native.Nat.{ℕ, zero, suc, ◌+◌, ◌≤◌, ◌<◌}
use native.Mathlib.Omega.{arith}
use borrow.Author.Tests.{eq-eqb, lt-ltb}
use lib.Dec.{eqb}
use lib.ListN.{length, get_or, drop}
use lib.Seq.{drop_at}
use Rattle.tlv_reader.specs.Octet.{pick}
use Rattle.im_requests.specs.Status.{response_in}
use Rattle.im_requests.specs.Read.{read_in, read_read}
use Rattle.im_envelope.specs.declared.Fields.{Fields}
use Rattle.im_envelope.proofs.BigLaws.{envelope-read}
use Rattle.im_writer.specs.Envelope.{cache_edition, exchange_limit, envelope_octets}
use Rattle.im_writer.proofs.EnvelopeLaws.{length-envelope}
use Rattle.im_exchange.specs.declared.Step.TheVariants.{Begin}
use Rattle.im_exchange.specs.declared.Action.TheVariants.{Read}
use Rattle.im_exchange.specs.Rules.{status_opcode, max_turn, part, nothing, first_reply, action_of, on_request}
use Rattle.im_exchange.proofs.ActionLaws.{read-action}
use Rattle.node_schema.specs.Layout.{subject_word}
use Rattle.server_selection.specs.declared.asked.Asked.{Asked}
use Rattle.server_report.specs.declared.ReadPlace.{ReadPlace}
use Rattle.server_report.specs.Blocks.{View, PlacedBlock, view_of}
use Rattle.server_report.specs.Chunk.{block_room, taken, left, any}
use Rattle.server_report.specs.Part.{part_payload, parts_from}
use Rattle.server_replies.specs.Messages.{envelope_length, max_message, status_message, report_message}
use Rattle.server_report.specs.declared.part.OpenRead.{OpenRead}
use Rattle.server_replies.specs.declared.ExchangeRow.{ExchangeRow}
use Rattle.server_replies.specs.Server.{Server, Caller, ServerReaction, with_row, with_state}
use Rattle.server_replies.specs.Row.{kept_reply, paths_of, blocks_of, next_of, reported, next_part, keeping}
use Rattle.server_replies.specs.Refusal.{read_refusal}
use Rattle.server_replies.specs.Begin.{request_of, beginning_place, read_begun, refusal_of}
use Rattle.server_replies.proofs.MessageLaws.{status-length}
use Rattle.server_replies.proofs.RowLaws.{row-right}
use Rattle.server_replies.proofs.KeptLaws.{next-right, read_right, next-reply, read-reply, keeping-whole}
use Rattle.server.specs.State.{server_right}
use Rattle.server.specs.Receive.{received, replied, reacted, step_of, for_server}
use Rattle.server.proofs.ServerLaws.{server-right, right-server}
use Rattle.server.proofs.ReactLaws.{next-whole}
use Rattle.server.proofs.ReceiveLaws.{served, exchange-below}
use Rattle.server.specs.Promise.{Success}
use Rattle.server.proofs.PromiseLaws.{promised-part}
use Rattle.proof_round_trip.proofs.BackLaws.{status-back}
use Rattle.proof_whole_read.specs.Through.{Answers, success_for, and_then, goes_on, read_through, part_message, some, messages_of, Asks, parts_of}

-- a part that promises what is left, as a reply
part-message : (exchange k : ℕ) (l : List PlacedBlock) → report_message cache_edition exchange k l ≡ part_message exchange k (taken block_room l) (any (left block_room l))
unfolding report_message part_payload
part-message exchange k l = refl

-- while there are parts to come the list has one
some-parts : (v : View) (ps : List Asked) (n : ℕ) (at : ReadPlace) → 0 < n → some (parts_from v ps n at) ≡ true
unfolding parts_from
some-parts v ps zero at h = absurd (omega arith)
some-parts v ps (suc n) at h = refl

some-rest : (b : Bool) (l : List (List PlacedBlock)) → (b ≡ true → some l ≡ true) → some (pick b l []) ≡ b
some-rest true l h = h refl
some-rest false l h = refl

module _ (c : Caller) (table : c.table ≡ true) where
  abbrev view_in : Server → View
  view_in t = view_of t.schema t.state.values t.defaults t.state.edits c.grants t.state.row.request.filters

  abbrev parts_in : ℕ → Server → List (List PlacedBlock)
  parts_in n t = parts_from (view_in t) (paths_of t.state.row.request) n t.state.row.place

  -- a server in the midst of a read, after a reply that promised more, or not
  record Serving (t : Server) (more : Bool) : Type 0 where
    right : server_right t ≡ true
    whole : length t.state.row.kept ≡ max_message
    ours : c.subject ≡ get_or t.schema subject_word 0
    next : t.state.row.progress.next ≡ next_of more
    unclosed : t.state.row.progress.closed ≡ 0

  module _ (t : Server) (h : Serving t true) (turns : t.state.row.progress.turn < max_turn) where
    abbrev x : ℕ
    x = t.state.row.progress.last

    abbrev k : ℕ
    k = t.state.row.progress.turn

    below : x < exchange_limit
    below = (row-right t.state.row (server-right t h.right).row).exchange

    -- a success is read as one
    success : Success t c (success_for t) (record { edition = cache_edition; opcode = status_opcode; exchange = x; turn = k })
    unfolding status_message
    success =
        record {
          found = envelope-read cache_edition status_opcode x k (omega arith) (omega arith) below (omega (arith, turns)) _;
          fits = omega (arith, status-length cache_edition x k 0 (omega arith));
          edition = refl;
          opcode = refl;
          ours = h.ours;
          exchange = refl;
          turn = refl;
          status = ap response_in (drop_at (envelope_octets cache_edition status_opcode x k) _ envelope_length (length-envelope cache_edition status_opcode x k)) ∙ status-back 0 (omega arith);
        }

    answered : received t c (success_for t) max_message ≡ replied (with_row t.state (next_part t c.grants))
    answered = promised-part t c (success_for t) max_message h.right table (omega arith) success (record { promised = h.next; unclosed = h.unclosed; left = turns })

    -- so one success is one call
    one_more : (n : ℕ) → goes_on (suc n) c t ≡ and_then t (replied (with_row t.state (next_part t c.grants))) (goes_on n c)
    unfolding goes_on
    one_more n = promises ∙ ap (λ (r : ServerReaction). and_then t r (goes_on n c)) answered
      where
        promises : goes_on (suc n) c t ≡ and_then t (received t c (success_for t) max_message) (goes_on n c)
        promises = ap (λ (m : ℕ). pick (eqb m part) (and_then t (received t c (success_for t) max_message) (goes_on n c)) (record { replies = []; server = t })) h.next

    abbrev blocks : List PlacedBlock
    blocks = blocks_of t c.grants t.state.row.request t.state.row.place

    abbrev after-it : Server
    after-it = with_state t (with_row t.state (next_part t c.grants))

    goes : Serving after-it (any (left block_room blocks))
    unfolding next_part keeping
    goes =
        let r = server-right t h.right in
        record {
          right = right-server after-it (record { plan = r.plan; values = r.values; row = next-right t c.grants r.row turns (λ z. omega (arith, z, h.next)) });
          whole = next-whole t c.grants ∙ h.whole;
          ours = h.ours;
          next = refl;
          unclosed = refl;
        }

  -- THE SUCCESSES get the parts that are left
  went : (n : ℕ) (t : Server) (more : Bool) → Serving t more → (more ≡ true → length (parts_in n t) < n) → let l = pick more (parts_in n t) [] in t.state.row.progress.turn + length l ≤ max_turn → ((goes_on n c t).replies ≡ messages_of t.state.row.progress.last (t.state.row.progress.turn + 1) l) × ((goes_on n c t).server.state.row.progress.next ≡ nothing)
  unfolding goes_on messages_of parts_from next_part keeping
  went zero t true h few turns = absurd (omega (arith, few refl))
  went zero t false h few turns = (refl, h.next)
  went (suc n) t false h few turns = rw h.next (refl, refl)
  went (suc n) t true h few turns =
      let low : t.state.row.progress.turn < max_turn = omega (arith, turns) in
      let b : Bool = any (left block_room (blocks t h low)) in
      let rest : List (List PlacedBlock) = parts_in n (after-it t h low) in
      let shorter : b ≡ true → length rest < n = λ e. omega (arith, few refl, ap (λ (y : Bool). length (pick y rest [])) e) in
      let (replies, end) = went n (after-it t h low) b (goes t h low) shorter (omega (arith, turns)) in
      let flag = some-rest b rest (λ e. some-parts _ _ n _ (omega (arith, shorter e))) in
      let first = next-reply t c.grants h.whole ∙ part-message (x t h low) (k t h low + 1) (blocks t h low) ∙ ap (part_message (x t h low) (k t h low + 1) (taken block_room (blocks t h low))) (sym flag) in
      let step = one_more t h low n in
      (ap (λ (y : Answers). y.replies) step ∙ (λ j. first j ∷ replies j), ap (λ (y : Answers). y.server.state.row.progress.next) step ∙ end)

  -- THE REQUEST gets the first
  module _ (s : Server) (m : List ℕ) {e : Fields} (a : Asks s c m e) (right : server_right s ≡ true) (whole : length s.state.row.kept ≡ max_message) where
    abbrev payload : List ℕ
    payload = drop envelope_length m

    begins : step_of s.state.row.progress Read e payload ≡ Begin
    unfolding step_of on_request
    begins = rw (eq-eqb e.turn 0 a.turn, lt-ltb s.state.row.progress.last e.exchange a.newer) refl

    abbrev begun : Server
    begun = with_state s (with_row s.state (read_begun s c.grants e.exchange payload))

    for-us : for_server e.edition Read ≡ true
    unfolding for_server
    for-us = rw a.edition refl

    request-answered : received s c m max_message ≡ replied (with_row s.state (read_begun s c.grants e.exchange payload))
    unfolding reacted
    request-answered =
        served s c m max_message right table (omega arith) a.found (ap action_of a.opcode ∙ read-action) a.fits for-us a.ours
        ∙ ap (reacted s c.grants e payload Read) begins

    below-limit : e.exchange < exchange_limit
    below-limit = exchange-below m a.found

    abbrev q : OpenRead
    q = request_of s.schema (read_read (read_in payload))

    abbrev asked : List PlacedBlock
    asked = blocks_of s c.grants q beginning_place

    -- what the row has then
    row_is : read_begun s c.grants e.exchange payload ≡ reported s.state.row e.exchange first_reply q beginning_place asked
    unfolding read_begun
    row_is = rw (eq-eqb _ 0 a.taken) refl

    row-whole : length (read_begun s c.grants e.exchange payload).kept ≡ max_message
    row-whole = ap (λ (y : ExchangeRow). length y.kept) row_is ∙ keeping-whole s.state.row _ _ _ _ ∙ whole

    serving : Serving begun (any (left block_room asked))
    unfolding keeping
    serving =
        let r = server-right s right in
        record {
          right = right-server begun (record { plan = r.plan; values = r.values; row = read_right s c.grants e.exchange below-limit (λ z. omega (arith, z, a.newer)) r.row payload });
          whole = row-whole;
          ours = a.ours;
          next = ap (λ (y : ExchangeRow). y.progress.next) row_is;
          unclosed = ap (λ (y : ExchangeRow). y.progress.closed) row_is;
        }

    first-reply : kept_reply (read_begun s c.grants e.exchange payload) ≡ report_message cache_edition e.exchange first_reply asked
    first-reply =
        read-reply s c.grants whole e.exchange payload
        ∙ ap (λ (z : Bool). pick z (report_message cache_edition e.exchange first_reply asked) (refusal_of e.exchange (read_refusal (read_read (read_in payload))))) (eq-eqb (read_refusal (read_read (read_in payload))) 0 a.taken)

    -- THE THEOREM: the request and then each success get exactly the parts, and after the last no more is promised
    pub read_through_lem : (n : ℕ) → length (parts_of (suc n) c s m) ≤ n → length (parts_of (suc n) c s m) ≤ max_turn → ((read_through n c s m).replies ≡ messages_of e.exchange first_reply (parts_of (suc n) c s m)) × ((read_through n c s m).server.state.row.progress.next ≡ nothing)
    unfolding messages_of parts_from keeping
    read_through_lem n few turns =
        let b : Bool = any (left block_room asked) in
        let row : ExchangeRow = reported s.state.row e.exchange first_reply q beginning_place asked in
        let t : Server = with_state s (with_row s.state row) in
        let same : begun ≡ t = ap (λ (y : ExchangeRow). with_state s (with_row s.state y)) row_is in
        let rest : List (List PlacedBlock) = parts_in n t in
        let shorter : b ≡ true → length rest < n = λ z. omega (arith, few, ap (λ (y : Bool). length (pick y rest [])) z) in
        let (replies, end) = went n t b (subst (λ (y : Server). Serving y b) same serving) shorter (omega (arith, turns)) in
        let flag = some-rest b rest (λ z. some-parts _ _ n _ (omega (arith, shorter z))) in
        let first : kept_reply (read_begun s c.grants e.exchange payload) ≡ part_message e.exchange first_reply (taken block_room asked) (some (pick b rest [])) =
        first-reply ∙ part-message e.exchange first_reply asked ∙ ap (part_message e.exchange first_reply (taken block_room asked)) (sym flag) in
        let step : read_through n c s m ≡ and_then s (replied (with_row s.state (read_begun s c.grants e.exchange payload))) (goes_on n c) = ap (λ (r : ServerReaction). and_then s r (goes_on n c)) request-answered in
        let on : goes_on n c begun ≡ goes_on n c t = ap (goes_on n c) same in
        (ap (λ (y : Answers). y.replies) step ∙ (λ j. first j ∷ (ap (λ (y : Answers). y.replies) on ∙ replies) j), ap (λ (y : Answers). y.server.state.row.progress.next) (step) ∙ ap (λ (y : Answers). y.server.state.row.progress.next) on ∙ end)
