-- Every call leaves numbers in their widths, so that words that are a cache's stay a cache's.
use mathlib.Core.Path.{◌≡◌, refl, ap, ◌∙◌}
use mathlib.Core.Bool.{Bool, true, false}
use mathlib.Core.List.{List}
use Prim.Native.Nat.{ℕ, ◌-◌, ◌^◌, ◌<◌}
use native.Mathlib.Omega.{arith}
use lib.Dec.{ltb}
use lib.ListN.{length, replicate}
use Rattle.tlv_reader.specs.Octet.{pick}
use Rattle.tlv_reader.specs.declared.Value.{Value}
use Rattle.im_envelope.specs.Envelope.{max_message}
use Rattle.im_writer.specs.Envelope.{exchange_limit}
use Rattle.cache_state.specs.declared.CacheState.{CacheState}
use Rattle.cache_state.specs.declared.Outcome.{Outcome}
use Rattle.cache_state.specs.State.{is_open, cache_right}
use Rattle.cache_state.specs.Words.{asked_size, words_right, Narrow}
use Rattle.cache_state.specs.Reaction.{CacheReaction, refusal, CacheReacted}
use Rattle.cache_state.specs.Begin.{fresh, kept_message, keeping, asking, asked_as, beginning, begins_read, sendable, begins_write, resends}
use Rattle.cache_state.proofs.WordLaws.{still-right}

-- A CACHE'S WORDS STAY A CACHE'S
pub stays-cache : {x : CacheReaction} {r : Outcome} {s : CacheState} {asked new_asked page old new : List ℕ} → CacheReacted x r s asked new_asked page old new → words_right asked ≡ true → length asked ≡ asked_size → Narrow x.state → words_right new_asked ≡ true
stays-cache {x} {r} {s} {asked} k h size n = ap words_right k.words ∙ still-right asked h size x.state n

-- those of a fresh cache are right
pub fresh-right : words_right (replicate asked_size 0) ≡ true
unfolding words_right
fresh-right = refl

pub fresh-narrow : Narrow fresh
unfolding fresh
fresh-narrow = record { turn = omega arith; status = omega arith; endpoint = omega arith; cluster = omega arith; attribute = omega arith }

-- a request that was begun
pub asking-narrow : (s : CacheState) (stage e c a : ℕ) (message : List ℕ) → e < 2 ^ 16 → c < 2 ^ 32 → a < 2 ^ 32 → Narrow (asking s stage e c a message)
unfolding asked_as keeping
asking-narrow s stage e c a message p q r = record { turn = omega arith; status = omega arith; endpoint = p; cluster = q; attribute = r }

module _ (page : List ℕ) (s : CacheState) (room : ℕ) (n : Narrow s) where
  begun-narrow : (x : CacheReaction) → Narrow x.state → Narrow (beginning page s room x).state
  begun-narrow x m = go (cache_right page s) (ltb room max_message) (ltb s.asked.used (exchange_limit - 1))
    where
      go : (a b c : Bool) → Narrow (pick a (pick b (refusal 3 s page) (pick c x (refusal 8 s page))) (refusal 2 s page)).state
      go false b c = n
      go true true c = n
      go true false true = m
      go true false false = n

  pub read-narrow : Narrow (begins_read page s room).state
  unfolding begins_read
  read-narrow = begun-narrow _ (asking-narrow s _ _ _ _ _ (omega arith) (omega arith) (omega arith))

  pub write-narrow : (e c a : ℕ) (given : Bool) (version : ℕ) (src : List ℕ) (v : Value) → e < 2 ^ 16 → c < 2 ^ 32 → a < 2 ^ 32 → Narrow (begins_write page s e c a given version src v room).state
  unfolding begins_write
  write-narrow e c a given version src v p q r = begun-narrow _ (go (sendable src v) _ (asking-narrow s _ e c a _ p q r))
    where
      go : (b : Bool) (x : CacheReaction) → Narrow x.state → Narrow (pick b x (refusal 10 s page)).state
      go true x m = m
      go false x m = n

-- a message sent again changes nothing
pub resent-same : (page : List ℕ) (s : CacheState) (room : ℕ) → (resends page s room).state ≡ s
unfolding resends
resent-same page s room = go (cache_right page s) (ltb room max_message) (is_open s.asked.stage)
  where
    go : (a b c : Bool) → (pick a (pick b (refusal 3 s page) (pick c (record { number = 0; state = s; page = page; reply = kept_message s.asked }) (refusal 9 s page))) (refusal 2 s page)).state ≡ s
    go false b c = refl
    go true true c = refl
    go true false true = refl
    go true false false = refl
