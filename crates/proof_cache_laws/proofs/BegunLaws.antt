-- A FRESH CACHE IS VALID, and beginning and resending keep it valid.
use mathlib.Core.Path.{◌≡◌, refl, sym, ap, subst, ◌∙◌}
use mathlib.Core.Bool.{Bool, true, false, ◌&&◌, not}
use mathlib.Core.List.{List, []}
use Prim.Native.Nat.{ℕ, ◌+◌, ◌-◌, ◌^◌, ◌≤◌, ◌<◌}
use native.Mathlib.Omega.{arith}
use borrow.Author.Tests.{eq-eqb, ne_eqb, eqb-true, lt-ltb, le-leb, ltb-true}
use lib.Dec.{eqb, leb, ltb}
use lib.ListN.{length, replicate, length-replicate}
use Rattle.base_octets.proofs.StoreLaws.{length-store}
use Rattle.tlv_reader.specs.declared.Value.{Value}
use Rattle.tlv_reader.specs.Octet.{pick}
use Rattle.tlv_reader.specs.Value.{datum_in}
use Rattle.tlv_reader.proofs.Picks.{pick-elim}
use Rattle.node_schema.specs.Check.{every}
use Rattle.node_schema.proofs.BoolLaws.{both, by-test}
use Rattle.cache_entries.specs.Limits.{max_entries, max_clusters, text_places, page_size, order_size}
use Rattle.cache_order.proofs.OrderLaws.{order-empty}
use Rattle.cache_entries.specs.Entries.{cluster_order}
use Rattle.cache_entries.specs.Valid.{clusters_right, entries_right, texts_right}
use Rattle.cache_entries.proofs.ValidLaws as Held
use Rattle.im_writer.specs.Envelope.{cache_edition, exchange_limit}
use Rattle.cache_messages.specs.Filters.{filters_of}
use Rattle.cache_messages.specs.Messages.{read_message, write_message}
use Rattle.proof_cache_laws.specs.Valid.{ValidCache, Holds}
use Rattle.proof_cache_laws.proofs.BoundLaws.{Sized, filters-narrow, filters-few, read-sized, write-sized}
use Rattle.im_envelope.specs.Envelope.{max_message}
use Rattle.im_exchange.specs.Rules.{first_reply}
use Rattle.cache_state.specs.declared.Request.{Request}
use Rattle.cache_state.specs.declared.CacheState.{CacheState}
use Rattle.cache_state.specs.State.{reading, writing, with_status, is_open, open_right, asked_right, cache_right, RightAsked}
use Rattle.cache_state.specs.Reaction.{CacheReaction, refusal}
use Rattle.cache_state.specs.Begin.{fresh, unknown_after, keeping, next_request, asked_as, sent, beginning, begins_read, sendable, begins_write, resends, kept_message}
use Rattle.cache_state.proofs.BeginLaws.{sendable-fits}

asked-true : (x : Request) → RightAsked x → asked_right x ≡ true
unfolding asked_right
asked-true x r =
    both _ _ (lt-ltb _ _ r.used)
    (both _ _ (le-leb _ _ r.exchange) (both _ _ (le-leb _ _ r.unknown) (both _ _ (le-leb _ _ r.stage) (both _ _ (le-leb _ _ r.len) r.sent))))

-- SO IT NEVER ANSWERS 2
pub valid-right : (page : List ℕ) (s : CacheState) → ValidCache page s → cache_right page s ≡ true
unfolding cache_right
valid-right page s v = both _ _ (Held.right-held page s.held v.held.right) (asked-true s.asked v.asked)

zeros : (n : ℕ) → length {A = ℕ} (replicate n 0) ≡ n
zeros n = length-replicate n 0

-- FRESH, with any page of its size
pub fresh-valid : (page : List ℕ) → length page ≡ page_size → ValidCache page fresh
unfolding fresh clusters_right entries_right texts_right every is_open
fresh-valid page size = record {
  held = record {
    right = record {
      size = size;
      few-entries = omega arith;
      few-clusters = omega arith;
      clusters = refl;
      cluster-order = order-empty (replicate max_clusters 0) (cluster_order (replicate order_size 0));
      entry-order = order-empty (replicate max_entries 0) (replicate order_size 0);
      entries = refl;
      texts = refl;
    };
    whole = record { clusters = zeros max_clusters; keys = zeros max_entries; versions = zeros max_entries; kinds = zeros max_entries; words = zeros max_entries; order = zeros order_size; lengths = zeros text_places };
  };
  asked = record { used = omega arith; exchange = omega arith; unknown = omega arith; stage = omega arith; len = omega arith; sent = refl };
  kept = zeros max_message;
}

-- a message kept by an open request, whose exchange and turn are none of them 0; a write awaits turn 1
pub keeping-right : (x : Request) → x.used < exchange_limit → x.exchange ≤ x.used → x.unknown ≤ x.used → x.stage ≤ with_status → (x.exchange ≡ 0 → ⊥) → (x.turn ≡ 0 → ⊥) → (x.stage ≡ writing → x.turn ≡ first_reply) → {m : List ℕ} → Sized m → RightAsked (keeping x m)
unfolding keeping open_right
keeping-right x u e k s n t w {m} z = record {
  used = u;
  exchange = e;
  unknown = k;
  stage = s;
  len = z.fits;
  sent = by-test (is_open x.stage) (λ o. rw o (both _ _ (ap not (ne_eqb x.exchange 0 n)) (both _ _ (ap not (ne_eqb x.turn 0 t)) (both _ _ once (lt-ltb 0 (length m) z.some))))) (λ o. rw o refl);
}
  where
    once : pick (eqb x.stage writing) (eqb x.turn first_reply) true ≡ true
    once = by-test (eqb x.stage writing) (λ q. rw q (eq-eqb x.turn first_reply (w (eqb-true x.stage writing q)))) (λ q. rw q refl)

module _ (page : List ℕ) (s : CacheState) (v : ValidCache page s) where
  unknown-kept : unknown_after s.asked ≤ s.asked.used
  unfolding unknown_after
  unknown-kept = pick-elim (λ (n : ℕ). n ≤ s.asked.used) (eqb s.asked.stage writing) _ _ (λ _. v.asked.exchange) (λ _. v.asked.unknown)

  -- a request begun
  sent-valid : (stage e c a : ℕ) → stage ≤ with_status → s.asked.used + 1 < exchange_limit → {m : List ℕ} → Sized m → ValidCache page (sent page s stage e c a m).state
  unfolding asked_as keeping
  sent-valid stage e c a l u {m} z = record {
    held = v.held;
    asked = keeping-right (next_request s.asked stage e c a) u (omega arith) (omega (arith, unknown-kept)) l (λ q. omega (arith, q)) (λ q. omega (arith, q)) (λ q. refl) z;
    kept = length-store s.asked.kept 0 m ∙ v.kept;
  }

  begun-valid : (room : ℕ) (next : CacheReaction) → (s.asked.used + 1 < exchange_limit → Holds next) → Holds (beginning page s room next)
  begun-valid room next h =
      pick-elim Holds (cache_right page s) _ _
      (λ _. pick-elim Holds (ltb room max_message) _ _ (λ _. v)
      (λ _. pick-elim Holds (ltb s.asked.used (exchange_limit - 1)) _ _ (λ t. h (omega (arith, ltb-true s.asked.used (exchange_limit - 1) t))) (λ _. v)))
      (λ _. v)

  -- BEGINNING A READ, whatever the buffer
  pub read_kept_lem : (room : ℕ) → Holds (begins_read page s room)
  unfolding begins_read
  read_kept_lem room =
      begun-valid room (sent page s reading 0 0 0 (read_message cache_edition (s.asked.used + 1) (filters_of s.held)))
      (λ u. sent-valid reading 0 0 0 (omega arith) u
      (read-sized cache_edition (s.asked.used + 1) (filters_of s.held) (filters-narrow s.held) (omega (arith, filters-few s.held, v.held.right.few-clusters))))

  -- BEGINNING A WRITE of any value
  pub write_kept_lem : (e c a : ℕ) (given : Bool) (version : ℕ) (src : List ℕ) (x : Value) (room : ℕ) → e < 2 ^ 16 → c < 2 ^ 32 → a < 2 ^ 32 → version < 2 ^ 32 → Holds (begins_write page s e c a given version src x room)
  unfolding begins_write
  write_kept_lem e c a given version src x room fe fc fa fv =
      begun-valid room _
      (λ u. pick-elim Holds (sendable src x) _ _
      (λ t. sent-valid writing e c a (omega arith) u (write-sized cache_edition (s.asked.used + 1) given version e c a (datum_in src x) fv fe fc fa (sendable-fits src x t).short))
      (λ _. v))

  -- RESENDING changes nothing
  pub resent-kept : (room : ℕ) → Holds (resends page s room)
  unfolding resends
  resent-kept room =
      pick-elim Holds (cache_right page s) _ _
      (λ _. pick-elim Holds (ltb room max_message) _ _ (λ _. v) (λ _. pick-elim Holds (is_open s.asked.stage) _ _ (λ _. v) (λ _. v)))
      (λ _. v)
