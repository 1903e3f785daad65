-- BEGINNING A READ OR A WRITE IS A STEP OF THE PROTOCOL, unless it is refused; resending sends nothing new.
use mathlib.Core.Path.{◌≡◌, refl, ap}
use mathlib.Core.Logic.{◌⊎◌, inl, inr}
use mathlib.Core.Bool.{Bool, true, false}
use mathlib.Core.List.{List, [], ◌∷◌, Memᴰ}
use Prim.Native.Nat.{ℕ, suc, ◌+◌, ◌-◌, ◌^◌, ◌≤◌, ◌<◌}
use native.Mathlib.Omega.{arith}
use borrow.Author.Tests.{ltb-true}
use lib.Dec.{eqb, ltb}
use lib.ListN.{length}
use Rattle.base_octets.proofs.StoreLaws.{store-back}
use Rattle.tlv_reader.specs.declared.Value.{Value}
use Rattle.tlv_reader.specs.Value.{Datum, datum_in}
use Rattle.tlv_reader.proofs.Picks.{pick-elim}
use Rattle.tlv_writer.specs.Meaning.{Writable}
use Rattle.node_schema.specs.Rules.{Rules}
use Rattle.im_writer.specs.Spelling.{primitive_d}
use Rattle.im_writer.specs.Meaning.{PathFits}
use Rattle.im_envelope.specs.Envelope.{max_message}
use Rattle.cache_messages.specs.Filters.{filters_of}
use Rattle.cache_messages.specs.Messages.{read_message, write_message}
use Rattle.cache_state.specs.declared.Request.{Request}
use Rattle.cache_state.specs.declared.CacheState.{CacheState}
use Rattle.cache_state.specs.State.{reading, writing, is_open, cache_right}
use Rattle.cache_state.specs.Reaction.{CacheReaction, refusal}
use Rattle.cache_state.specs.Begin.{kept_message, keeping, next_request, asked_as, sent, beginning, begins_read, sendable, begins_write, resends}
use Rattle.proof_cache_laws.specs.Valid.{Holds}
use Rattle.proof_cache_laws.proofs.BegunLaws.{read_kept_lem, write_kept_lem}
use Rattle.proof_trip.proofs.BeginLaws.{filters-fit, filters-few}
use Rattle.proof_trip.proofs.BegunLaws.{takable}
use Rattle.proof_protocol.specs.Model.{Filter, Message, read, write, exchange_of, Cache, System, begin_read, begin_write, FiltersFor}
use Rattle.proof_refinement.specs.Terms.{filters_as}
use Rattle.proof_refinement.specs.Bytes.{MessageAs, reads, writes, WriteFits}
use Rattle.proof_refinement.specs.Cache.{Writing, CacheAs}
use Rattle.im_writer.specs.Envelope.{cache_edition, exchange_limit}
use Rattle.proof_cache_steps.proofs.Reactions.{Still, Begins}
use Rattle.proof_cache_steps.proofs.FilterLaws.{filters-for}
use Rattle.proof_cache_steps.proofs.WriteLaws.{own-path}

-- the message kept is the one sent
pub kept_back : (x : Request) (m : List ℕ) → length m ≤ length x.kept → kept_message (keeping x m) ≡ m
unfolding keeping
kept_back x m h = store-back x.kept 0 m (omega (arith, h))

module _ (w : List ℕ) (rules : Rules w) where
  module _ (page : List ℕ) (s : CacheState) (sys : System Datum) (old : List (List ℕ)) (cache : CacheAs w old page s sys.cache)
      (older : (m : List ℕ) → Memᴰ m old → (u : Message) × MessageAs w m u × (exchange_of u ≤ sys.cache.exchange)) where
    -- RESENDING
    pub resent : (room : ℕ) → let x = resends page s room in (x.state ≡ s) × (x.page ≡ page) × ((x.reply ≡ []) ⊎ Memᴰ x.reply old)
    unfolding resends
    resent room =
        let P : CacheReaction → Type 0 = λ x. (x.state ≡ s) × (x.page ≡ page) × ((x.reply ≡ []) ⊎ Memᴰ x.reply old) in
        pick-elim P (cache_right page s) _ _
        (λ _. pick-elim P (ltb room max_message) _ _ (λ _. (refl, refl, inl refl))
        (λ _. pick-elim P (is_open s.asked.stage) _ _ (λ o. (refl, refl, inr (cache.newest o))) (λ _. (refl, refl, inl refl))))
        (λ _. (refl, refl, inl refl))

    -- a request is refused with a number and changes nothing, or is let through and has a number that is free
    abbrev Unless : (CacheReaction → Type 0) → CacheReaction → Type 0
    Unless P x = (Still page s x × (x.number ≡ 0 → ⊥)) ⊎ P x

    refused : (P : CacheReaction → Type 0) (n : ℕ) → (n ≡ 0 → ⊥) → Unless P (refusal n s page)
    refused P n h = inl (record { state = refl; page-is = refl; reply = refl }, h)

    begun : (P : CacheReaction → Type 0) (room : ℕ) (next : CacheReaction) → (s.asked.used + 1 < exchange_limit → Holds next → Unless P next) → Holds (beginning page s room next) → Unless P (beginning page s room next)
    begun P room next goes =
        let Q : CacheReaction → Type 0 = λ x. Holds x → Unless P x in
        pick-elim Q (cache_right page s) _ _
        (λ _. pick-elim Q (ltb room max_message) _ _ (λ _ _. refused P 3 (λ e. omega (arith, e)))
        (λ _. pick-elim Q (ltb s.asked.used (exchange_limit - 1)) _ _ (λ t. goes (omega (arith, ltb-true s.asked.used (exchange_limit - 1) t))) (λ _ _. refused P 8 (λ e. omega (arith, e)))))
        (λ _ _. refused P 2 (λ e. omega (arith, e)))

    next-exchange : suc sys.cache.exchange ≡ s.asked.used + 1
    next-exchange = omega (arith, cache.exchange, cache.used)

    before : (m : List ℕ) → Memᴰ m old → (u : Message) × MessageAs w m u × (exchange_of u < s.asked.used + 1)
    before m h = let (u, is, low) = older m h in (u, is, omega (arith, low, next-exchange))

    -- THE CACHE AFTER a request is sent
    abbrev cache_with : Bool → List Filter → Cache Datum
    cache_with b filters =
        record { exchange = suc sys.cache.exchange; reading = b; next = 1; entries = sys.cache.entries; primed = sys.cache.primed; filters = filters }

    asked-cache : (stage e c a : ℕ) (m : List ℕ) (filters : List Filter) → Holds (sent page s stage e c a m)
        → (stage ≡ writing → Writing (m ∷ old) (sent page s stage e c a m).state)
        → CacheAs w (m ∷ old) page (sent page s stage e c a m).state (cache_with (eqb stage reading) filters)
    unfolding asked_as keeping
    asked-cache stage e c a m filters v own = record {
      valid = v;
      held = cache.held;
      primed = cache.primed;
      used = refl;
      exchange = next-exchange;
      reading-is = refl;
      next = λ _. refl;
      turn-fits = omega arith;
      writing-is = own;
      newest = λ _. Memᴰ.head (kept_back (next_request s.asked stage e c a) m (omega (arith, v.asked.len, cache.valid.kept)));
    }

    -- BEGINNING A READ
    abbrev fs : List Filter
    fs = filters_as w (filters_of s.held)

    abbrev ReadBegun : CacheReaction → Type 0
    ReadBegun x = Begins w old x (read (suc sys.cache.exchange) fs) (cache_with true fs) × FiltersFor sys.cache fs

    read-sent : s.asked.used + 1 < exchange_limit → let next = sent page s reading 0 0 0 (read_message cache_edition (s.asked.used + 1) (filters_of s.held)) in Holds next → ReadBegun next
    read-sent u v = (
      record {
        number = refl;
        cache = asked-cache reading 0 0 0 (read_message cache_edition (s.asked.used + 1) (filters_of s.held)) fs v (λ e. absurd (omega (arith, e)));
        message = reads (s.asked.used + 1) (filters_of s.held) refl (ap (λ (x : ℕ). read x fs) next-exchange) u (filters-fit s.held) (omega (arith, filters-few s.held, cache.valid.held.right.few-clusters));
      },
      filters-for w rules old page s sys.cache cache,
    )

    pub read-begins : (room : ℕ) → let x = begins_read page s room in
        (Still page s x × (x.number ≡ 0 → ⊥)) ⊎ (Begins w old x (read (suc sys.cache.exchange) fs) (begin_read sys fs).cache × FiltersFor sys.cache fs)
    unfolding begins_read begin_read
    read-begins room = begun ReadBegun room _ (λ u v. inr (read-sent u v)) (read_kept_lem page s cache.valid room)

    -- BEGINNING A WRITE
    module _ (e c a : ℕ) (given : Bool) (version : ℕ) (src : List ℕ) (v : Value) (room : ℕ) (fv : version < 2 ^ 32) (p : PathFits e c a) (q : Writable (primitive_d (datum_in src v))) where
      abbrev WriteBegun : CacheReaction → Type 0
      WriteBegun x = Begins w old x (write (suc sys.cache.exchange)) (cache_with false [])

      abbrev message : List ℕ
      message = write_message cache_edition (s.asked.used + 1) given version e c a (datum_in src v)

      write-sent : sendable src v ≡ true → s.asked.used + 1 < exchange_limit → Holds (sent page s writing e c a message) → WriteBegun (sent page s writing e c a message)
      unfolding asked_as keeping
      write-sent t u h =
          let fits : WriteFits version e c a (datum_in src v) = record { version-fits = fv; path = p; writable = q; takable = takable src v t } in
          record {
            number = refl;
            cache = asked-cache writing e c a message [] h (λ _. record { first = refl; own = own-path (s.asked.used + 1) given version e c a (datum_in src v) u fits w old before });
            message = writes (s.asked.used + 1) given version e c a (datum_in src v) refl (ap write next-exchange) u fits;
          }

      pub write-begins : let x = begins_write page s e c a given version src v room in
          (Still page s x × (x.number ≡ 0 → ⊥)) ⊎ Begins w old x (write (suc sys.cache.exchange)) (begin_write sys).cache
      unfolding begins_write begin_write
      write-begins =
          begun WriteBegun room _
          (λ u. pick-elim (λ x. Holds x → Unless WriteBegun x) (sendable src v) _ _ (λ t h. inr (write-sent t u h)) (λ _ _. refused WriteBegun 10 (λ z. omega (arith, z))))
          (write_kept_lem page s cache.valid e c a given version src v room p.endpoint-fits p.cluster-fits p.attribute-fits fv)
