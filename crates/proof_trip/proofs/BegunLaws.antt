-- A request that a cache begins is read as it was meant, whatever the cache holds that keeps the rules.
use mathlib.Core.Path.{◌≡◌}
use mathlib.Core.Bool.{Bool, true, false}
use mathlib.Core.List.{List}
use Prim.Native.Nat.{ℕ, ◌+◌, ◌-◌, ◌^◌, ◌<◌}
use native.Mathlib.Omega.{arith}
use borrow.Author.Tests.{ltb-true, ltb-false, not-true}
use lib.Dec.{ltb, leb}
use lib.ListN.{length, drop, length-take}
use Rattle.tlv_reader.specs.declared.Value.{Value}
use Rattle.tlv_reader.specs.declared.Value.TheVariants as value
use Rattle.tlv_reader.specs.Value.{datum_in}
use Rattle.tlv_reader.proofs.Picks.{pick-elim}
use Rattle.tlv_writer.specs.Meaning.{Writable}
use Rattle.im_blocks.proofs.BlockLaws.{never}
use Rattle.node_schema.proofs.BoolLaws.{left, right}
use Rattle.im_writer.specs.Spelling.{primitive_d}
use Rattle.im_writer.specs.Meaning.{PathFits}
use Rattle.im_envelope.specs.Envelope.{max_message}
use Rattle.cache_entries.specs.Limits.{text_size}
use Rattle.cache_entries.proofs.ValidLaws.{held-right}
use Rattle.cache_entries.specs.Values.{inside_usable, usable_in, long_v}
use Rattle.cache_messages.specs.Filters.{filters_of}
use Rattle.cache_messages.specs.Messages.{write_message}
use Rattle.cache_state.specs.declared.CacheState.{CacheState}
use Rattle.cache_state.specs.State.{cache_right}
use Rattle.cache_state.specs.Reaction.{CacheReaction}
use Rattle.cache_state.specs.Begin.{sendable, beginning, begins_read, begins_write}
use Rattle.im_writer.specs.Envelope.{cache_edition, exchange_limit}
use Rattle.proof_trip.specs.Begun.{ReadBegun, WriteBegun}
use Rattle.proof_trip.specs.Taken.{Takable}
use Rattle.proof_trip.proofs.BeginLaws.{read-envelope, read_taken, write-envelope, write-taken}

-- a value that can be sent is one that a cache can take
takable-of : (src : List ℕ) (v : Value) → usable_in src v ≡ true → long_v v ≡ false → Takable (datum_in src v)
unfolding Takable usable_in inside_usable long_v
takable-of src value.Null h l = tt
takable-of src (value.Boolean b) h l = tt
takable-of src (value.Unsigned n) h l = tt
takable-of src (value.Signed z) h l = tt
takable-of src (value.Float n) h l = tt
takable-of src (value.Text a n) h l =
    (right (leb a (length src - n)) _ (right (leb n (length src)) _ h), omega (arith, length-take n (drop a src), ltb-false text_size n l))
takable-of src value.Other h l = never (cc)

pub takable : (src : List ℕ) (v : Value) → sendable src v ≡ true → Takable (datum_in src v)
unfolding sendable
takable src v h = takable-of src v (left _ _ h) (not-true (long_v v) (right (usable_in src v) _ h))

-- what is begun was let through
module _ (page : List ℕ) (s : CacheState) (room : ℕ) where
  began : (P : List ℕ → Type 0) (next : CacheReaction) → (cache_right page s ≡ true → s.asked.used < exchange_limit - 1 → next.number ≡ 0 → P next.reply) → (beginning page s room next).number ≡ 0 → P (beginning page s room next).reply
  began P next law =
      let Q : CacheReaction → Type 0 = λ r. r.number ≡ 0 → P r.reply in
      pick-elim Q (cache_right page s) _ _
      (λ t. pick-elim Q (ltb room max_message) _ _ (λ _ h. absurd (omega (arith, h)))
      (λ _. pick-elim Q (ltb s.asked.used (exchange_limit - 1)) _ _ (λ l. law t (ltb-true s.asked.used (exchange_limit - 1) l)) (λ _ h. absurd (omega (arith, h)))))
      (λ _ h. absurd (omega (arith, h)))

  -- A READ
  pub read-begun : (begins_read page s room).number ≡ 0 → ReadBegun s (begins_read page s room).reply
  unfolding begins_read cache_right
  read-begun = began (ReadBegun s) _ (λ t l _. record {
    envelope = read-envelope cache_edition (s.asked.used + 1) (filters_of s.held) (omega arith) (omega (arith, l));
    request = read_taken s.held (record { clusters = (held-right page s.held (left _ _ t)).few-clusters }) cache_edition (s.asked.used + 1);
  })

  -- A WRITE
  module _ (given : Bool) (version e c a : ℕ) (src : List ℕ) (v : Value) (fv : version < 2 ^ 32) (p : PathFits e c a) (w : Writable (primitive_d (datum_in src v))) where
    pub write-begun : (begins_write page s e c a given version src v room).number ≡ 0 → WriteBegun s given version e c a (datum_in src v) (begins_write page s e c a given version src v room).reply
    unfolding begins_write
    write-begun = began (WriteBegun s given version e c a (datum_in src v)) _ (λ t l. pick-elim (λ (r : CacheReaction). r.number ≡ 0 → WriteBegun s given version e c a (datum_in src v) r.reply) (sendable src v) _ _ (λ q _. made l (takable src v q)) (λ _ h. absurd (omega (arith, h))))
      where
        made : s.asked.used < exchange_limit - 1 → Takable (datum_in src v) → WriteBegun s given version e c a (datum_in src v) (write_message cache_edition (s.asked.used + 1) given version e c a (datum_in src v))
        made l h =
            let r = write-taken cache_edition (s.asked.used + 1) given version e c a (datum_in src v) fv p w h in
            record {
              place = r.0;
              envelope = write-envelope cache_edition (s.asked.used + 1) given version e c a (datum_in src v) (omega arith) (omega (arith, l));
              request = r.1;
              value = r.2;
            }
