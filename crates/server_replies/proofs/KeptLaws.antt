-- What every row keeps to: the rules for a row, and a reply that is whole.
use mathlib.Core.Path.{◌≡◌, refl}
use mathlib.Core.Bool.{Bool, true, false}
use mathlib.Core.List.{List, []}
use Prim.Native.Nat.{ℕ, ◌+◌, ◌^◌, ◌≤◌, ◌<◌}
use native.Mathlib.Omega.{arith}
use borrow.Author.Tests.{eq-eqb, eqb-true}
use lib.Dec.{eqb}
use lib.ListN.{length, length-take}
use Rattle.base_bounds.specs.Bounds.{path_limit}
use Rattle.base_octets.proofs.StoreLaws.{length-store}
use Rattle.tlv_reader.specs.Octet.{pick}
use Rattle.tlv_reader.proofs.Picks.{pick-elim}
use Rattle.im_requests.specs.Read.{read_in, read_read}
use Rattle.im_requests.specs.Write.{write_in, write_read}
use Rattle.node_access.specs.declared.Grants.{Grants}
use Rattle.server_selection.proofs.RequestLaws.{paths-count}
use Rattle.im_exchange.specs.declared.Progress.{Progress}
use Rattle.im_exchange.specs.Rules.{max_turn, nothing, part, first_reply}
use Rattle.server_report.specs.declared.ReadPlace.{ReadPlace}
use Rattle.server_report.specs.declared.part.OpenRead.{OpenRead}
use Rattle.server_report.specs.Blocks.{view_of}
use Rattle.server_report.specs.Chunk.{block_room, left, any}
use Rattle.server_writes.specs.Entry.{codes_of}
use Rattle.im_writer.specs.Envelope.{cache_edition, exchange_limit}
use Rattle.server_replies.specs.declared.ExchangeRow.{ExchangeRow}
use Rattle.server_replies.specs.Messages.{envelope_length, max_message, report_message, response_message}
use Rattle.server_replies.specs.Server.{ServerState, Server, held_by}
use Rattle.server_replies.specs.Row.{kept_at, keeping, kept_reply, paths_of, blocks_of, next_of, reported, next_part, kept_right, row_right}
use Rattle.server_replies.specs.Refusal.{read_asks, read_refusal, write_asks, write_refusal}
use Rattle.server_replies.specs.Begin.{once, beginning_place, request_of, read_begun, entries_of, response_to, write_begun, refusal_of}
use Rattle.server_replies.proofs.MessageLaws.{status-length, report-length, status-some, report-some, response-some}
use Rattle.server_replies.proofs.RowLaws.{RightRow, row-right, right-row, kept_back, kept-short, kept-none, kept-some, served-some, promised-served}
use Rattle.server_replies.proofs.PlaceLaws.{Reached, part-reached}
use Rattle.server_replies.proofs.RequestLaws.{refusal-octet, whole-none}
use Rattle.server_replies.proofs.BeginLaws.{response-short}

-- ---- a right row stays right

next_small : (b : Bool) → next_of b ≤ part
next_small true = omega arith
next_small false = omega arith

module _ (x : ExchangeRow) (exchange : ℕ) (below : exchange < exchange_limit) (served : exchange ≡ 0 → ⊥) where
  once-right : RightRow x → (reply : List ℕ) → kept_right (length reply) ≡ true → RightRow (once x exchange reply)
  unfolding keeping
  once-right r reply h =
      record {
        exchange = below;
        turn = omega arith;
        next = omega arith;
        closed = omega arith;
        asked = r.asked;
        phase = r.phase;
        path = r.path;
        index = r.index;
        sent = r.sent;
        kept = h;
        served = served-some _ (length reply) served (omega arith);
      }

  reported-right : (u : Server) (g : Grants) (turn : ℕ) → first_reply ≤ turn → turn ≤ max_turn → (q : OpenRead) (at : ReadPlace) → q.asked ≤ path_limit → Reached q.asked at → RightRow (reported x exchange turn q at (blocks_of u g q at))
  unfolding keeping
  reported-right u g turn f t q at a p =
      let r = part-reached q.asked (view_of u.schema u.state.values u.defaults u.state.edits g q.filters) (paths_of q) at block_room (omega (arith, paths-count q.paths q.asked)) p in
      let l = blocks_of u g q at in
      record {
        exchange = below;
        turn = t;
        next = next_small (any (left block_room l));
        closed = omega arith;
        asked = a;
        phase = r.phase;
        path = r.path;
        index = r.index;
        sent = r.sent;
        kept = kept-some _ (report-some cache_edition exchange turn l) (report-length cache_edition exchange turn l);
        served = served-some _ _ served f;
      }

-- THE NEXT PART, where it was promised
pub next-right : (u : Server) (g : Grants) → row_right u.state.row ≡ true → u.state.row.progress.turn < max_turn → (u.state.row.progress.next ≡ nothing → ⊥) → row_right (next_part u g) ≡ true
unfolding next_part
next-right u g h t some =
    let x = u.state.row in
    let r = row-right x h in
    let (served, f) = promised-served x.progress x.len r.served some in
    right-row (next_part u g)
    (reported-right x x.progress.last r.exchange served u g (x.progress.turn + 1) (omega arith) (omega arith) x.request x.place r.asked (record { phase = r.phase; path = r.path; index = r.index; sent = r.sent }))

-- the reply to a write that is not refused
answered-kept : (u : Server) (g : Grants) (exchange : ℕ) (s : List ℕ) → write_refusal (write_read (write_in s)) ≡ 0 → kept_right (length (response_to u g exchange s (write_read (write_in s)))) ≡ true
answered-kept u g exchange s z =
    let q = write_read (write_in s) in
    let codes = codes_of u.schema g u.defaults s (held_by u.state) (entries_of q) in
    pick-elim (λ (l : List ℕ). kept_right (length l) ≡ true) (eqb q.suppress 1) [] (response_message cache_edition exchange first_reply (entries_of q) codes)
    (λ t. kept-none) (λ t. kept-some _ (response-some cache_edition exchange first_reply (entries_of q) codes) (response-short s refl u g exchange z))

refused-kept : (exchange code : ℕ) → code < 2 ^ 8 → kept_right (length (refusal_of exchange code)) ≡ true
refused-kept exchange code f = kept-some _ (status-some cache_edition exchange first_reply code) (omega (arith, status-length cache_edition exchange first_reply code f))

answered-short : (u : Server) (g : Grants) (exchange : ℕ) (s : List ℕ) → write_refusal (write_read (write_in s)) ≡ 0 → length (response_to u g exchange s (write_read (write_in s))) ≤ max_message
answered-short u g exchange s z = kept-short _ (answered-kept u g exchange s z)

refused-short : (exchange code : ℕ) → code < 2 ^ 8 → length (refusal_of exchange code) ≤ max_message
refused-short exchange code f = kept-short _ (refused-kept exchange code f)

module _ (u : Server) (g : Grants) (exchange : ℕ) (below : exchange < exchange_limit) (served : exchange ≡ 0 → ⊥) (right : row_right u.state.row ≡ true) where
  -- A READ that begins
  pub read_right : (s : List ℕ) → row_right (read_begun u g exchange s) ≡ true
  unfolding read_begun request_of
  read_right s =
      let q = read_read (read_in s) in
      right-row (read_begun u g exchange s)
      (pick-elim RightRow (eqb (read_refusal q) 0) _ _
      (λ t. let f = whole-none q.good (read_asks q) (eqb-true (read_refusal q) 0 t) in reported-right u.state.row exchange below served u g first_reply (omega arith) (omega arith) (request_of u.schema q) beginning_place f.paths (record { phase = refl; path = omega arith; index = omega arith; sent = refl }))
      (λ t. once-right u.state.row exchange below served (row-right u.state.row right) (refusal_of exchange (read_refusal q)) (refused-kept exchange (read_refusal q) (refusal-octet q.good (read_asks q)))))

  -- A WRITE that begins
  pub write-right : (s : List ℕ) → row_right (write_begun u g exchange s).row ≡ true
  unfolding write_begun
  write-right s =
      let q = write_read (write_in s) in
      right-row (write_begun u g exchange s).row
      (pick-elim (λ (l : ServerState). RightRow l.row) (eqb (write_refusal q) 0) _ _
      (λ t. once-right u.state.row exchange below served (row-right u.state.row right) (response_to u g exchange s q) (answered-kept u g exchange s (eqb-true (write_refusal q) 0 t)))
      (λ t. once-right u.state.row exchange below served (row-right u.state.row right) (refusal_of exchange (write_refusal q)) (refused-kept exchange (write_refusal q) (refusal-octet q.good (write_asks q)))))

-- ---- THE KEPT REPLY of a right row is a message
pub reply-bound : (x : ExchangeRow) → row_right x ≡ true → length (kept_reply x) ≤ max_message
reply-bound x h = omega (arith, kept-short x.len (row-right x h).kept, length-take x.len x.kept)

-- ---- and it is the reply that was given

module _ (x : ExchangeRow) (p : Progress) (r : OpenRead) (a : ReadPlace) (reply : List ℕ) where
  -- a row's array keeps its length
  pub keeping-whole : length (keeping x p r a reply).kept ≡ length x.kept
  unfolding keeping
  keeping-whole = length-store x.kept kept_at reply

of-pick : {A B : Type 0} (f : A → B) (b : Bool) (x y : A) {u v : B} → (b ≡ true → f x ≡ u) → (b ≡ false → f y ≡ v) → f (pick b x y) ≡ pick b u v
of-pick f true x y h g = h refl
of-pick f false x y h g = g refl

module _ (u : Server) (g : Grants) (whole : length u.state.row.kept ≡ max_message) where
  pub next-reply : let x = u.state.row in kept_reply (next_part u g) ≡ report_message cache_edition x.progress.last (x.progress.turn + 1) (blocks_of u g x.request x.place)
  unfolding next_part
  next-reply = let x = u.state.row in kept_back x whole _ _ _ _ (report-length cache_edition x.progress.last (x.progress.turn + 1) (blocks_of u g x.request x.place))

  module _ (exchange : ℕ) (s : List ℕ) where
    pub read-reply :
        let q = read_read (read_in s) in
        kept_reply (read_begun u g exchange s) ≡ pick (eqb (read_refusal q) 0) (report_message cache_edition exchange first_reply (blocks_of u g (request_of u.schema q) beginning_place)) (refusal_of exchange (read_refusal q))
    unfolding read_begun
    read-reply =
        let q = read_read (read_in s) in
        of-pick (λ (y : ExchangeRow). kept_reply y) (eqb (read_refusal q) 0) _ _
        (λ t. kept_back u.state.row whole _ _ _ _ (report-length cache_edition exchange first_reply (blocks_of u g (request_of u.schema q) beginning_place)))
        (λ t. kept_back u.state.row whole _ _ _ _ (refused-short exchange (read_refusal q) (refusal-octet q.good (read_asks q))))

    pub write-reply :
        let q = write_read (write_in s) in
        kept_reply (write_begun u g exchange s).row ≡ pick (eqb (write_refusal q) 0) (response_to u g exchange s q) (refusal_of exchange (write_refusal q))
    unfolding write_begun
    write-reply =
        let q = write_read (write_in s) in
        of-pick (λ (l : ServerState). kept_reply l.row) (eqb (write_refusal q) 0) _ _
        (λ t. kept_back u.state.row whole _ _ _ _ (answered-short u g exchange s (eqb-true (write_refusal q) 0 t)))
        (λ t. kept_back u.state.row whole _ _ _ _ (refused-short exchange (write_refusal q) (refusal-octet q.good (write_asks q))))

-- ---- NO REPLY BUT SILENCE is empty

pub next-some : (u : Server) (g : Grants) → envelope_length ≤ (next_part u g).len
unfolding next_part keeping
next-some u g = let x = u.state.row in report-some cache_edition x.progress.last (x.progress.turn + 1) (blocks_of u g x.request x.place)

module _ (u : Server) (g : Grants) (exchange : ℕ) (s : List ℕ) where
  pub read_some : envelope_length ≤ (read_begun u g exchange s).len
  unfolding read_begun keeping
  read_some =
      let q = read_read (read_in s) in
      pick-elim (λ (y : ExchangeRow). envelope_length ≤ y.len) (eqb (read_refusal q) 0) _ _
      (λ t. report-some cache_edition exchange first_reply (blocks_of u g (request_of u.schema q) beginning_place)) (λ t. status-some cache_edition exchange first_reply (read_refusal q))

  -- a write that is not refused and asked for silence gets it
  pub write-none : write_refusal (write_read (write_in s)) ≡ 0 → (write_read (write_in s)).suppress ≡ 1 → (write_begun u g exchange s).row.len ≡ 0
  unfolding write_begun keeping
  write-none z q = rw (eq-eqb (write_refusal (write_read (write_in s))) 0 z, eq-eqb (write_read (write_in s)).suppress 1 q) refl

  -- every other is answered
  pub write-some : (write_refusal (write_read (write_in s)) ≡ 0 → (write_read (write_in s)).suppress ≡ 1 → ⊥) → envelope_length ≤ (write_begun u g exchange s).row.len
  unfolding write_begun keeping
  write-some n =
      let q = write_read (write_in s) in
      pick-elim (λ (l : ServerState). envelope_length ≤ l.row.len) (eqb (write_refusal q) 0) _ _
      (λ t. pick-elim (λ (l : List ℕ). envelope_length ≤ length l) (eqb q.suppress 1) [] (response_message cache_edition exchange first_reply (entries_of q) (codes_of u.schema g u.defaults s (held_by u.state) (entries_of q)))
      (λ y. absurd (n (eqb-true (write_refusal q) 0 t) (eqb-true q.suppress 1 y))) (λ y. response-some cache_edition exchange first_reply (entries_of q) (codes_of u.schema g u.defaults s (held_by u.state) (entries_of q))))
      (λ t. status-some cache_edition exchange first_reply (write_refusal q))
