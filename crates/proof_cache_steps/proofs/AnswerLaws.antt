-- WHAT THE CACHE RECEIVES AND DOES NOT AWAIT leaves everything as it was; the answer to its write ends the write.
use mathlib.Core.Path.{◌≡◌, refl, sym, ap, subst, ◌∙◌}
use mathlib.Core.Logic.{inl}
use mathlib.Core.Bool.{false, ◌&&◌}
use mathlib.Core.List.{List, [], ◌∷◌, ◌++◌, Memᴰ}
use Prim.Native.Nat.{ℕ, ◌^◌, ◌≤◌, ◌<◌}
use native.Mathlib.Omega.{arith}
use borrow.Author.Tests.{eqb-true, le-ltb}
use lib.Dec.{eqb, leb}
use lib.ListN.{length}
use Rattle.tlv_reader.specs.Value.{Datum}
use Rattle.tlv_reader.proofs.Picks.{pick-elim}
use Rattle.im_blocks.proofs.BlockLaws.{never}
use Rattle.node_schema.specs.Rules.{Rules}
use Rattle.node_schema.proofs.BoolLaws.{left, right, by-test}
use Rattle.im_writer.specs.Envelope.{envelope_octets, cache_edition, exchange_limit}
use Rattle.proof_round_trip.specs.Meant.{WriteStatus, OutcomeFits, outcomes_octets}
use Rattle.im_exchange.specs.Rules.{write_response_opcode}
use Rattle.im_envelope.specs.Envelope.{max_message}
use Rattle.im_envelope.proofs.BigLaws.{envelope-read}
use Rattle.cache_state.specs.declared.CacheState.{CacheState}
use Rattle.cache_state.specs.State.{reading, writing, is_open}
use Rattle.cache_state.specs.Reaction.{CacheReaction, refusal, unsent}
use Rattle.cache_receive.specs.Receive.{for_cache, opcode_awaited, awaited, ended_as, received}
use Rattle.proof_cache_laws.proofs.ReceiveLaws.{small}
use Rattle.proof_cache_laws.specs.Valid.{Holds}
use Rattle.proof_cache_laws.proofs.BegunLaws.{valid-right}
use Rattle.proof_cache_laws.proofs.KeptLaws.{received-kept}
use Rattle.proof_trip.specs.Taken.{ended_by}
use Rattle.proof_trip.proofs.ReceivedLaws.{write-ended}
use Rattle.proof_protocol.specs.Model.{Message, exchange_of, System}
use Rattle.proof_refinement.specs.Bytes.{MessageAs, Wrote, answer_bytes}
use Rattle.proof_refinement.specs.Cache.{CacheAs}
use Rattle.proof_cache_steps.proofs.Reactions.{Still, Takes}

module _ (w : List ℕ) (rules : Rules w) where
  module _ (page : List ℕ) (s : CacheState) (sys : System Datum) (sent : List (List ℕ)) (cache : CacheAs w sent page s sys.cache)
      (older : (m : List ℕ) → Memᴰ m sent → (u : Message) × MessageAs w m u × (exchange_of u ≤ sys.cache.exchange)) where
    -- A BUFFER THAT IS TOO SMALL
    pub room_small : (m : List ℕ) (room : ℕ) → room < max_message → Still page s (received page s m room)
    room_small m room l =
        subst (Still page s) (sym (small page s m room (valid-right page s cache.valid) l)) (record { state = refl; page-is = refl; reply = refl })

    -- A MESSAGE THAT IS NOT AWAITED: no step
    refused : (n : ℕ) → (n ≡ 6 → ⊥) → (n ≡ 7 → ⊥) → Takes w sent sys (refusal n s page) sys
    refused n six seven = record { cache = cache; told = inl (refl, refl); never-6 = six; never-7 = seven }

    pub not-awaited : (opcode x turn : ℕ) → opcode < 16 → x < exchange_limit → turn < 2 ^ 16 → (payload : List ℕ)
        → awaited s.asked (record { edition = cache_edition; opcode = opcode; exchange = x; turn = turn }) ≡ false
        → (room : ℕ) → max_message ≤ room → Takes w sent sys (received page s (envelope_octets cache_edition opcode x turn ++ payload) room) sys
    unfolding received
    not-awaited opcode x turn fo fx ft payload a room l =
        let m : List ℕ = envelope_octets cache_edition opcode x turn ++ payload in
        let P : CacheReaction → Type 0 = λ r. Takes w sent sys r sys in
        rw (valid-right page s cache.valid, le-ltb room max_message l, envelope-read cache_edition opcode x turn (omega arith) fo fx ft payload, a)
        (pick-elim P (leb (length m) max_message && for_cache cache_edition opcode) _ _ (λ _. refused 5 (λ e. omega (arith, e)) (λ e. omega (arith, e))) (λ _. refused 4 (λ e. omega (arith, e)) (λ e. omega (arith, e))))

    -- THE ANSWER TO A WRITE
    ended : (code : ℕ) → Holds (unsent (ended_by s code) page) → s.asked.stage ≡ writing → Takes w sent sys (unsent (ended_by s code) page) sys
    unfolding ended_as is_open
    ended code v e = record {
      cache = record {
        valid = v;
        held = cache.held;
        primed = cache.primed;
        used = cache.used;
        exchange = cache.exchange;
        reading-is = cache.reading-is ∙ ap (λ (n : ℕ). eqb n reading) e;
        next = λ z. absurd (omega (arith, z));
        turn-fits = cache.turn-fits;
        writing-is = λ z. absurd (omega (arith, z));
        newest = λ o. never (cc);
      };
      told = inl (refl, refl);
      never-6 = λ z. omega (arith, z);
      never-7 = λ z. omega (arith, z);
    }

    module _ (x : ℕ) (o : WriteStatus) (fx : x < exchange_limit) (fits : OutcomeFits o) (wrote : Wrote sent x o.endpoint o.cluster o.attribute) (room : ℕ) (l : max_message ≤ room) where
      own : s.asked.stage ≡ writing → s.asked.exchange ≡ x → s.asked.turn ≡ 1 → Takes w sent sys (received page s (answer_bytes x o) room) sys
      unfolding answer_bytes
      own e q t =
          let paths = (cache.writing-is e).own o.endpoint o.cluster o.attribute (subst (λ (n : ℕ). Wrote sent n o.endpoint o.cluster o.attribute) (sym q) wrote) in
          let is : received page s (answer_bytes x o) room ≡ unsent (ended_by s o.code) page =
          sym (λ i. received page s (envelope_octets cache_edition write_response_opcode (q i) (t i) ++ outcomes_octets (o ∷ [])) room)
          ∙ write-ended page s room (valid-right page s cache.valid) l cache.turn-fits e o fits (record { same-endpoint = paths.0; same-cluster = paths.1; same-attribute = paths.2 }) in
          subst (λ (r : CacheReaction). Takes w sent sys r sys) (sym is)
          (ended o.code (subst Holds is (received-kept page s cache.valid (answer_bytes x o) room)) e)

      pub answer-taken : Takes w sent sys (received page s (answer_bytes x o) room) sys
      unfolding answer_bytes awaited opcode_awaited
      answer-taken = by-test (awaited s.asked (record { edition = cache_edition; opcode = write_response_opcode; exchange = x; turn = 1 }))
          (λ t. let a = right (is_open s.asked.stage) _ t in
          let b = right (eqb x s.asked.exchange) _ a in
          own (eqb-true _ _ (right (eqb 1 s.asked.turn) _ b)) (sym (eqb-true _ _ (left _ _ a))) (sym (eqb-true _ _ (left _ _ b))))
          (λ f. not-awaited write_response_opcode x 1 (omega arith) fx (omega arith) (outcomes_octets (o ∷ [])) f room l)
