-- A reply kept in a row is the reply again; what a right row keeps to.
use mathlib.Core.Path.{◌≡◌, refl, sym, ap, ◌∙◌}
use mathlib.Core.Bool.{Bool, true, false, ◌&&◌}
use mathlib.Core.List.{List, []}
use Prim.Native.Nat.{ℕ, ◌-◌, ◌≤◌, ◌<◌}
use native.Mathlib.Omega.{arith}
use borrow.Author.Tests.{ltb-true, leb-true, eqb-true, eqb-false, lt-ltb, le-leb, eq-eqb, ne_eqb}
use lib.Dec.{leb, ltb, eqb}
use lib.ListN.{length, take}
use Rattle.base_bounds.specs.Bounds.{attribute_limit, path_limit}
use Rattle.base_octets.specs.Store.{store, Stored}
use Rattle.base_octets.proofs.StoreLaws.{store-back, same_length}
use Rattle.tlv_reader.specs.Octet.{pick}
use Rattle.node_schema.proofs.BoolLaws.{left, right}
use Rattle.im_exchange.specs.declared.Progress.{Progress}
use Rattle.im_exchange.specs.Rules.{max_turn, first_reply, nothing, part}
use Rattle.server_report.specs.declared.ReadPlace.{ReadPlace}
use Rattle.server_report.specs.declared.Filled.{Filled}
use Rattle.server_report.specs.declared.part.OpenRead.{OpenRead}
use Rattle.server_report.specs.Blocks.{PlacedBlock, attribute_phase}
use Rattle.im_writer.specs.Envelope.{exchange_limit, cache_edition}
use Rattle.server_replies.specs.declared.ExchangeRow.{ExchangeRow}
use Rattle.server_replies.specs.Messages.{envelope_length, max_message, report_message}
use Rattle.server_replies.specs.Row.{kept_at, keeping, kept_reply, next_of, reported, kept_right, served_right, row_right}
use Rattle.server_replies.specs.Sent.{Sent}
use Rattle.server_replies.proofs.MessageLaws.{report-length}

-- ---- a message in the buffer: where it ends, and the part that it is

module _ {old reply new : List ℕ} {end : ℕ} (u : Stored old 0 reply new end) (room : length reply ≤ length old) where
  pub ends-within : end ≤ length new
  ends-within = omega (arith, u.place, same_length u)

  pub part-back : take (end - 0) new ≡ reply
  part-back = let e : end - 0 ≡ length reply = omega (arith, u.place) in rw (e, u.content) (store-back old 0 reply (omega arith))

  pub part_end : end ≡ length (take (end - 0) new)
  part_end = omega (arith, u.place, ap length part-back)

  pub part-short : length (take (end - 0) new) ≤ length reply
  part-short = omega (arith, ap length part-back)

-- ---- and in a row

module _ (x : ExchangeRow) (whole : length x.kept ≡ max_message) where
  module _ (p : Progress) (r : OpenRead) (a : ReadPlace) where
    -- THE KEPT REPLY is the reply
    pub kept_back : (reply : List ℕ) → length reply ≤ max_message → kept_reply (keeping x p r a reply) ≡ reply
    unfolding keeping
    kept_back reply h = store-back x.kept kept_at reply (omega (arith, whole))

    -- and all of it
    pub kept_full : (reply : List ℕ) → length reply ≤ max_message → {y : ExchangeRow} → y ≡ keeping x p r a reply → length (kept_reply y) ≡ y.len
    unfolding keeping
    kept_full reply h q = ap (λ (z : ExchangeRow). length (kept_reply z)) q ∙ ap length (kept_back reply h) ∙ sym (ap (λ (z : ExchangeRow). z.len) q)

    -- a message that was written is kept from the buffer
    module _ {old reply new : List ℕ} {end : ℕ} (u : Stored old 0 reply new end) (h : length reply ≤ max_message) (room : max_message ≤ length old) where
      pub both-given : {y : ExchangeRow} → y ≡ keeping x p r a (take (end - 0) new) → (y ≡ keeping x p r a reply) × ((new ≡ store old 0 (kept_reply y)) × (length (kept_reply y) ≡ y.len))
      both-given {y} e =
          let q : y ≡ keeping x p r a reply = e ∙ ap (keeping x p r a) (part-back u (omega arith)) in
          (q, (u.content ∙ ap (store old 0) (sym (ap (λ (z : ExchangeRow). kept_reply z) q ∙ kept_back reply h)), kept_full reply h q))

    -- silence leaves the buffer as it was
    pub nothing-given : (old : List ℕ) {y : ExchangeRow} → y ≡ keeping x p r a [] → old ≡ store old 0 (kept_reply y)
    unfolding store
    nothing-given old e = sym (ap (λ (z : ExchangeRow). store old 0 (kept_reply z)) e ∙ ap (store old 0) (kept_back [] (omega arith)))

  -- a part
  module _ {old : List ℕ} {exchange turn : ℕ} {at : ReadPlace} {l : List PlacedBlock} {new : List ℕ} {f : Filled} (s : Sent old cache_edition exchange turn at l new f) (room : max_message ≤ length old) where
    pub part-given : (r : OpenRead) {y : ExchangeRow} → y ≡ keeping x (record { last = exchange; turn = turn; next = next_of f.more; closed = 0 }) r f.place (take (f.end - 0) new) → (y ≡ reported x exchange turn r at l) × ((new ≡ store old 0 (kept_reply y)) × (length (kept_reply y) ≡ y.len))
    part-given r e =
        both-given (record { last = exchange; turn = turn; next = next_of (s.more 1); closed = 0 }) r (s.place 1) s.stored (report-length cache_edition exchange turn l) room
        (e ∙ (λ j. keeping x (record { last = exchange; turn = turn; next = next_of (s.more j); closed = 0 }) r (s.place j) (take (f.end - 0) new)))

module _ {old : List ℕ} {edition exchange turn : ℕ} {at : ReadPlace} {l : List PlacedBlock} {new : List ℕ} {f : Filled} (s : Sent old edition exchange turn at l new f) (room : max_message ≤ length old) where
  report-room : length (report_message edition exchange turn l) ≤ length old
  report-room = omega (arith, report-length edition exchange turn l)

  pub report-within : f.end ≤ length new
  report-within = ends-within s.stored report-room

  pub report-end : f.end ≡ length (take (f.end - 0) new)
  report-end = part_end s.stored report-room

  pub report-short : length (take (f.end - 0) new) ≤ max_message
  report-short = omega (arith, part-short s.stored report-room, report-length edition exchange turn l)

-- ---- a right row

-- a kept reply has room, and one that has an envelope and room may be kept
pub kept-short : (n : ℕ) → kept_right n ≡ true → n ≤ max_message
unfolding kept_right
kept-short n h = go (eqb n 0) refl h
  where
    go : (b : Bool) → eqb n 0 ≡ b → pick b true (leb envelope_length n && leb n max_message) ≡ true → n ≤ max_message
    go true z q = omega (arith, eqb-true n 0 z)
    go false z q = leb-true n max_message (right (leb envelope_length n) (leb n max_message) q)

pub kept-none : kept_right 0 ≡ true
unfolding kept_right
kept-none = refl

pub kept-some : (n : ℕ) → envelope_length ≤ n → n ≤ max_message → kept_right n ≡ true
unfolding kept_right
kept-some n a b = rw (ne_eqb n 0 (λ z. omega arith), le-leb envelope_length n a, le-leb n max_message b) refl

-- an exchange that has a reply is served right, whatever was promised
pub served-some : (p : Progress) (len : ℕ) → (p.last ≡ 0 → ⊥) → first_reply ≤ p.turn → served_right p len ≡ true
unfolding served_right
served-some p len a b = rw (ne_eqb p.last 0 a, le-leb first_reply p.turn b) refl

-- where something was promised an exchange was served
pub promised-served : (p : Progress) (len : ℕ) → served_right p len ≡ true → (p.next ≡ nothing → ⊥) → (p.last ≡ 0 → ⊥) × (first_reply ≤ p.turn)
unfolding served_right
promised-served p len h some = go (eqb p.last 0) refl h
  where
    go : (b : Bool) → eqb p.last 0 ≡ b → pick b (eqb p.turn 0 && (eqb p.next nothing && (eqb p.closed 0 && eqb len 0))) (leb first_reply p.turn) ≡ true → (p.last ≡ 0 → ⊥) × (first_reply ≤ p.turn)
    go true z q = absurd (some (eqb-true p.next nothing (left (eqb p.next nothing) _ (right (eqb p.turn 0) _ q))))
    go false z q = (eqb-false p.last 0 z, leb-true first_reply p.turn q)

pub record RightRow (x : ExchangeRow) : Type 0 where
  pub exchange : x.progress.last < exchange_limit
  pub turn : x.progress.turn ≤ max_turn
  pub next : x.progress.next ≤ part
  pub closed : x.progress.closed ≤ 1
  pub asked : x.request.asked ≤ path_limit
  pub phase : x.place.phase ≡ attribute_phase
  pub path : x.place.path ≤ x.request.asked
  pub index : x.place.index ≤ attribute_limit
  pub sent : x.place.sent ≡ 0
  pub kept : kept_right x.len ≡ true
  pub served : served_right x.progress x.len ≡ true

pub row-right : (x : ExchangeRow) → row_right x ≡ true → RightRow x
unfolding row_right
row-right x h =
    let t₁₀ = served_right x.progress x.len in
    let t₉ = kept_right x.len in
    let t₈ = eqb x.place.sent 0 in
    let t₇ = leb x.place.index attribute_limit in
    let t₆ = leb x.place.path x.request.asked in
    let t₅ = eqb x.place.phase attribute_phase in
    let t₄ = leb x.request.asked path_limit in
    let t₃ = leb x.progress.closed 1 in
    let t₂ = leb x.progress.next part in
    let t₁ = leb x.progress.turn max_turn in
    let t₀ = ltb x.progress.last exchange_limit in
    let r₉ : Bool = t₉ && t₁₀ in
    let r₈ : Bool = t₈ && r₉ in
    let r₇ : Bool = t₇ && r₈ in
    let r₆ : Bool = t₆ && r₇ in
    let r₅ : Bool = t₅ && r₆ in
    let r₄ : Bool = t₄ && r₅ in
    let r₃ : Bool = t₃ && r₄ in
    let r₂ : Bool = t₂ && r₃ in
    let r₁ : Bool = t₁ && r₂ in
    let h₁ = right t₀ r₁ h in
    let h₂ = right t₁ r₂ h₁ in
    let h₃ = right t₂ r₃ h₂ in
    let h₄ = right t₃ r₄ h₃ in
    let h₅ = right t₄ r₅ h₄ in
    let h₆ = right t₅ r₆ h₅ in
    let h₇ = right t₆ r₇ h₆ in
    let h₈ = right t₇ r₈ h₇ in
    let h₉ = right t₈ r₉ h₈ in
    record {
      exchange = ltb-true x.progress.last exchange_limit (left t₀ r₁ h);
      turn = leb-true x.progress.turn max_turn (left t₁ r₂ h₁);
      next = leb-true x.progress.next part (left t₂ r₃ h₂);
      closed = leb-true x.progress.closed 1 (left t₃ r₄ h₃);
      asked = leb-true x.request.asked path_limit (left t₄ r₅ h₄);
      phase = eqb-true x.place.phase attribute_phase (left t₅ r₆ h₅);
      path = leb-true x.place.path x.request.asked (left t₆ r₇ h₆);
      index = leb-true x.place.index attribute_limit (left t₇ r₈ h₇);
      sent = eqb-true x.place.sent 0 (left t₈ r₉ h₈);
      kept = left t₉ t₁₀ h₉;
      served = right t₉ t₁₀ h₉;
    }

pub right-row : (x : ExchangeRow) → RightRow x → row_right x ≡ true
unfolding row_right
right-row x r =
    rw (
      lt-ltb x.progress.last exchange_limit r.exchange,
      le-leb x.progress.turn max_turn r.turn,
      le-leb x.progress.next part r.next,
      le-leb x.progress.closed 1 r.closed,
      le-leb x.request.asked path_limit r.asked,
      eq-eqb x.place.phase attribute_phase r.phase,
      le-leb x.place.path x.request.asked r.path,
      le-leb x.place.index attribute_limit r.index,
      eq-eqb x.place.sent 0 r.sent,
      r.kept,
      r.served,
    )
