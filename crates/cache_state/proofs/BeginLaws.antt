-- When a request can be begun; a value that can be written fits a message.
use mathlib.Core.Path.{◌≡◌, refl, sym, ap}
use mathlib.Core.Bool.{Bool, true, false, ◌&&◌}
use mathlib.Core.List.{List}
use Prim.Native.Nat.{ℕ, suc, ◌-◌, ◌≤◌, ◌<◌}
use native.Mathlib.Omega.{arith}
use borrow.Author.Tests.{not-true, ltb-true, ltb-false, lt-ltb, le-ltb}
use lib.Dec.{ltb}
use lib.ListN.{drop, length-take}
use Rattle.tlv_reader.specs.Octet.{pick}
use Rattle.tlv_reader.specs.declared.Value.{Value}
use Rattle.tlv_reader.specs.declared.Value.TheVariants as value
use Rattle.tlv_reader.specs.Value.{datum_in}
use Rattle.tlv_writer.specs.Element.{InPage}
use Rattle.im_writer.specs.Block.{ShortText}
use Rattle.node_schema.proofs.BoolLaws.{left, right}
use Rattle.cache_entries.specs.Values.{usable_in}
use Rattle.cache_entries.proofs.ValueLaws.{text-inside, text-short}
use Rattle.im_envelope.specs.Envelope.{max_message}
use Rattle.im_writer.specs.Envelope.{exchange_limit}
use Rattle.cache_state.specs.declared.CacheState.{CacheState}
use Rattle.cache_state.specs.State.{cache_right}
use Rattle.cache_state.specs.Words.{words_right}
use Rattle.cache_state.specs.Reaction.{CacheReaction, refusal, of_cache}
use Rattle.cache_state.specs.Begin.{beginning, sendable, unready}

pub record Fits (src : List ℕ) (v : Value) : Type 0 where
  pub inside : InPage src v
  pub short : ShortText (datum_in src v)

pub sendable-fits : (src : List ℕ) (v : Value) → sendable src v ≡ true → Fits src v
unfolding sendable ShortText
sendable-fits src value.Null h = record { inside = tt; short = tt }
sendable-fits src (value.Boolean b) h = record { inside = tt; short = tt }
sendable-fits src (value.Unsigned n) h = record { inside = tt; short = tt }
sendable-fits src (value.Signed z) h = record { inside = tt; short = tt }
sendable-fits src (value.Float n) h = record { inside = tt; short = tt }
sendable-fits src (value.Text a n) h =
    let i = text-inside src a n refl (left _ _ h) in
    let k = text-short {v = value.Text a n} a n refl (not-true _ (right (usable_in src (value.Text a n)) _ h)) in
    record { inside = omega (arith, i.few, i.before); short = omega (arith, k, length-take n (drop a src)) }
sendable-fits src value.Other h = record { inside = tt; short = tt }

-- ---- when a request can be begun

pub record Ready (asked page : List ℕ) (s : CacheState) (room : ℕ) : Type 0 where
  pub words : words_right asked ≡ true
  pub cache : cache_right page s ≡ true
  pub large : max_message ≤ room
  pub used : s.asked.used < exchange_limit - 1

module _ (asked page : List ℕ) (s : CacheState) (room : ℕ) where
  -- the number says why not
  pub not-ready : {n : ℕ} → n ≡ unready asked page s room → (n ≡ 0 → ⊥) → (x : CacheReaction) → of_cache asked page s (beginning page s room x) ≡ refusal n s page
  unfolding unready
  not-ready = go (words_right asked) (cache_right page s) (ltb room max_message) (ltb s.asked.used (exchange_limit - 1))
    where
      go : (a b c d : Bool) {n : ℕ} → n ≡ pick (a && b) (pick c 3 (pick d 0 8)) 2 → (n ≡ 0 → ⊥) → (x : CacheReaction) → pick a (pick b (pick c (refusal 3 s page) (pick d x (refusal 8 s page))) (refusal 2 s page)) (refusal 2 s page) ≡ refusal n s page
      go false b c d e z x = ap (λ (k : ℕ). refusal k s page) (sym e)
      go true false c d e z x = ap (λ (k : ℕ). refusal k s page) (sym e)
      go true true true d e z x = ap (λ (k : ℕ). refusal k s page) (sym e)
      go true true false true e z x = absurd (z e)
      go true true false false e z x = ap (λ (k : ℕ). refusal k s page) (sym e)

  pub is-ready : unready asked page s room ≡ 0 → Ready asked page s room
  unfolding unready
  is-ready h = let k = go (words_right asked) (cache_right page s) (ltb room max_message) (ltb s.asked.used (exchange_limit - 1)) h in record {
    words = k.0;
    cache = k.1.0;
    large = ltb-false room max_message k.1.1.0;
    used = ltb-true s.asked.used (exchange_limit - 1) k.1.1.1;
  }
    where
      never : {A : Type 0} {n : ℕ} → suc n ≡ 0 → A
      never e = absurd (omega arith)

      go : (a b c d : Bool) → ◌≡◌ {A = ℕ} (pick (a && b) (pick c 3 (pick d 0 8)) 2) 0 → (a ≡ true) × ((b ≡ true) × ((c ≡ false) × (d ≡ true)))
      go false b c d e = never e
      go true false c d e = never e
      go true true true d e = never e
      go true true false true e = (refl, (refl, (refl, refl)))
      go true true false false e = never e

  -- then it is
  pub ready-as : Ready asked page s room → (x : CacheReaction) → of_cache asked page s (beginning page s room x) ≡ x
  ready-as r x = rw (r.words, r.cache, le-ltb room max_message r.large, lt-ltb s.asked.used (exchange_limit - 1) r.used) refl
