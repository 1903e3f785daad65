-- A PART OF A REPORT IS TAKEN AS IN THE PROTOCOL: awaited by both or by neither; then both set its entries, and both send a success or end the read.
use mathlib.Core.Path.{◌≡◌, refl, sym, ap, subst, ◌∙◌}
use mathlib.Core.Logic.{inl, inr}
use mathlib.Core.Bool.{Bool, true, false, ◌&&◌, ◌||◌, not, or-true, or-false}
use mathlib.Core.List.{List, [], ◌∷◌, ◌++◌, map, Memᴰ}
use Prim.Native.Nat.{ℕ, ◌≤◌, ◌<◌}
use native.Mathlib.Omega.{arith}
use borrow.Author.Tests.{eqb-true, eq-eqb}
use lib.Dec.{eqb}
use lib.ListN.{length}
use Rattle.tlv_reader.specs.Octet.{pick}
use Rattle.tlv_reader.specs.Value.{Datum}
use Rattle.im_blocks.proofs.BlockLaws.{never}
use Rattle.node_schema.specs.Rules.{Rules}
use Rattle.node_schema.proofs.BoolLaws.{both, left, right, by-test, same}
use Rattle.im_writer.specs.Envelope.{envelope_octets, cache_edition}
use Rattle.im_exchange.specs.Rules.{report_opcode, max_turn}
use Rattle.im_envelope.specs.declared.Fields.{Fields}
use Rattle.im_envelope.specs.Envelope.{max_message}
use Rattle.cache_entries.specs.declared.Cached.{Cached}
use Rattle.cache_report.specs.Part.{blocks_in, judged_all, held_all, page_all}
use Rattle.cache_messages.specs.Messages.{success_message}
use Rattle.cache_state.specs.declared.CacheState.{CacheState}
use Rattle.cache_state.specs.State.{reading, is_open}
use Rattle.cache_state.specs.Reaction.{CacheReaction}
use Rattle.cache_state.specs.Begin.{keeping}
use Rattle.cache_receive.specs.Receive.{opcode_awaited, ended_as, primed_as, next_awaited, goes_on, ends, received}
use Rattle.cache_receive.specs.Receive
use Rattle.proof_cache_laws.proofs.BoundLaws.{Sized, success-sized}
use Rattle.proof_cache_laws.specs.Valid.{Holds}
use Rattle.proof_cache_laws.proofs.BegunLaws.{valid-right}
use Rattle.proof_cache_laws.proofs.KeptLaws.{received-kept}
use Rattle.proof_trip.proofs.ReceivedLaws
use Rattle.proof_protocol.specs.Model.{Message, success, exchange_of, Part, System, awaited, accept, receive}
use Rattle.proof_refinement.specs.Bytes.{block_as, part_payload, part_bytes, PartRight, MessageAs, succeeds}
use Rattle.proof_refinement.specs.Cache.{HeldAs, CacheAs}
use Rattle.proof_cache_parts.proofs.PartLaws.{each-sent, part_held}
use Rattle.proof_cache_steps.proofs.Reactions.{sent_with, Takes}
use Rattle.proof_cache_steps.proofs.PrimedLaws.{primed-all, primed-held}
use Rattle.proof_cache_steps.proofs.BeginLaws.{kept_back}
use Rattle.proof_cache_steps.proofs.AnswerLaws.{not-awaited}

-- a message that is not empty is sent
sent-with : (m : List ℕ) (l : List (List ℕ)) → 0 < length m → sent_with m l ≡ m ∷ l
sent-with [] l h = absurd (omega (arith, h))
sent-with (b ∷ m) l h = refl

module _ (w : List ℕ) (rules : Rules w) where
  module _ (page : List ℕ) (s : CacheState) (sys : System Datum) (sent : List (List ℕ)) (cache : CacheAs w sent page s sys.cache)
      (older : (m : List ℕ) → Memᴰ m sent → (u : Message) × MessageAs w m u × (exchange_of u ≤ sys.cache.exchange)) where
    module _ (p : Part Datum) (sound : PartRight w p) (turns : p.more ≡ true → p.turn < max_turn) (room : ℕ) (large : max_message ≤ room) where
      abbrev payload : List ℕ
      payload = part_payload w p

      abbrev held : Cached
      held = held_all payload s.held (blocks_in payload)

      abbrev texts : List ℕ
      texts = page_all payload s.held page (blocks_in payload)

      law : ((judged_all payload (record { number = 0; held = s.held }) (blocks_in payload)).number ≡ 0) × HeldAs w texts held (accept sys p).cache.entries
      unfolding accept
      law = part_held w rules page s.held cache.valid.held sys.cache.entries cache.held p sound

      -- THE PART AWAITED
      module _ (e : s.asked.stage ≡ reading) (q : s.asked.exchange ≡ p.exchange) (t : s.asked.turn ≡ p.turn) where
        taken : received page s (part_bytes w p) room ≡ pick p.more (goes_on held s.asked texts) (ends held s.asked texts)
        unfolding part_bytes
        taken =
            sym (λ i. received page s (envelope_octets cache_edition report_opcode (q i) (t i) ++ payload) room)
            ∙ ReceivedLaws.report-received page s room (valid-right page s cache.valid) large cache.turn-fits payload sound.short e
            ∙ ReceivedLaws.part-taken (map (block_as w) p.entries) p.more (each-sent w rules p.entries sound.entries) page s (λ m z. omega (arith, turns m, t, z)) law.0

        more : p.more ≡ true → Holds (goes_on held s.asked texts) → Takes w sent sys (goes_on held s.asked texts) (accept sys p)
        unfolding accept goes_on keeping is_open
        more m v = record {
          cache = subst (λ (l : List (List ℕ)). CacheAs w l texts (goes_on held s.asked texts).state (accept sys p).cache) (sym (sent-with message sent sized.some)) (record {
            valid = v;
            held = law.1;
            primed = ap (λ (b : Bool). sys.cache.primed || not b) m ∙ or-false sys.cache.primed ∙ cache.primed ∙ sym (primed-all payload s.held (blocks_in payload));
            used = cache.used;
            exchange = cache.exchange;
            reading-is = m ∙ sym (ap (λ (n : ℕ). eqb n reading) e);
            next = λ _. omega (arith, t);
            turn-fits = omega (arith, turns m, t);
            writing-is = λ z. absurd (omega (arith, e, z));
            newest = λ _. Memᴰ.head (kept_back (next_awaited s.asked) message (omega (arith, sized.fits, cache.valid.kept)));
          });
          told = inr (success p.exchange p.turn, succeeds s.asked.exchange s.asked.turn refl (λ i. success (sym q i) (sym t i)) (omega (arith, q, sound.exchange)) cache.turn-fits, rw m refl, λ z. omega (arith, sized.some, ap (λ (l : List ℕ). length l) z));
          never-6 = λ z. omega (arith, z);
          never-7 = λ z. omega (arith, z);
        }
          where
            message : List ℕ
            message = success_message cache_edition s.asked.exchange s.asked.turn

            sized : Sized message
            sized = success-sized cache_edition s.asked.exchange s.asked.turn

        last : p.more ≡ false → Holds (ends held s.asked texts) → Takes w sent sys (ends held s.asked texts) (accept sys p)
        unfolding accept ended_as is_open primed_as
        last m v = record {
          cache = record {
            valid = v;
            held = primed-held w texts held (accept sys p).cache.entries law.1;
            primed = ap (λ (b : Bool). sys.cache.primed || not b) m ∙ or-true sys.cache.primed;
            used = cache.used;
            exchange = cache.exchange;
            reading-is = m;
            next = λ z. absurd (omega (arith, z));
            turn-fits = cache.turn-fits;
            writing-is = λ z. absurd (omega (arith, z));
            newest = λ o. never (cc);
          };
          told = inl (refl, rw m refl);
          never-6 = λ z. omega (arith, z);
          never-7 = λ z. omega (arith, z);
        }

        after : (b : Bool) → p.more ≡ b → Holds (pick b (goes_on held s.asked texts) (ends held s.asked texts)) → Takes w sent sys (pick b (goes_on held s.asked texts) (ends held s.asked texts)) (accept sys p)
        after true m v = more m v
        after false m v = last m v

        own : Takes w sent sys (received page s (part_bytes w p) room) (accept sys p)
        own =
            subst (λ (r : CacheReaction). Takes w sent sys r (accept sys p)) (sym taken)
            (after p.more refl (subst Holds taken (received-kept page s cache.valid (part_bytes w p) room)))

      -- awaited by the cache exactly if in the protocol
      abbrev fields : Fields
      fields = record { edition = cache_edition; opcode = report_opcode; exchange = p.exchange; turn = p.turn }

      to-own : Receive.awaited s.asked fields ≡ true → (s.asked.stage ≡ reading) × (s.asked.exchange ≡ p.exchange) × (s.asked.turn ≡ p.turn)
      unfolding Receive.awaited opcode_awaited
      to-own h =
          let a = right (is_open s.asked.stage) _ h in
          let b = right (eqb p.exchange s.asked.exchange) _ a in
          (eqb-true _ _ (right (eqb p.turn s.asked.turn) _ b), sym (eqb-true _ _ (left _ _ a)), sym (eqb-true _ _ (left _ _ b)))

      from-own : s.asked.stage ≡ reading → p.exchange ≡ s.asked.exchange → p.turn ≡ s.asked.turn → Receive.awaited s.asked fields ≡ true
      unfolding Receive.awaited opcode_awaited is_open
      from-own e q t = both (is_open s.asked.stage) _ (rw e refl) (both _ _ (eq-eqb _ _ q) (both _ _ (eq-eqb _ _ t) (eq-eqb _ _ e)))

      both-await : awaited sys.cache p ≡ Receive.awaited s.asked fields
      both-await = same _ _
          (λ h. let a = left _ _ h in
          let e : s.asked.stage ≡ reading = eqb-true _ _ (sym cache.reading-is ∙ right (eqb p.exchange sys.cache.exchange && eqb p.turn sys.cache.next) _ h) in
          from-own e (eqb-true _ _ (left _ _ a) ∙ cache.exchange) (eqb-true _ _ (right (eqb p.exchange sys.cache.exchange) _ a) ∙ cache.next e))
          (λ h. let (e, q, t) = to-own h in
          both _ _ (both _ _ (eq-eqb _ _ (sym (cache.exchange ∙ q))) (eq-eqb _ _ (sym (cache.next e ∙ t)))) (cache.reading-is ∙ eq-eqb _ _ e))

      pub part-taken : Takes w sent sys (received page s (part_bytes w p) room) (receive sys p)
      unfolding part_bytes receive
      part-taken = by-test (Receive.awaited s.asked fields) (λ a. let (e, q, t) = to-own a in rw (both-await ∙ a) (own e q t))
          (λ a. rw (both-await ∙ a) (not-awaited w rules page s sys sent cache older report_opcode p.exchange p.turn (omega arith) sound.exchange sound.turn payload a room large))
