-- What is left in the cache's memory.
use mathlib.Core.Path.{◌≡◌, refl, sym, ap, subst, ◌∙◌}
use mathlib.Core.Bool.{true}
use mathlib.Core.List.{List}
use Prim.Native.Nat.{ℕ, ◌+◌, ◌≤◌, ◌<◌}
use lib.ListN.{length}
use Rattle.base_octets.specs.Store.{store}
use Rattle.cache_entries.specs.declared.Cached.{Cached}
use Rattle.cache_state.specs.declared.CacheState.{CacheState}
use Rattle.cache_state.specs.declared.CacheStanding.{CacheStanding}
use Rattle.cache_state.specs.declared.Outcome.{Outcome}
use Rattle.cache_state.specs.State.{last_part, with_status}
use Rattle.cache_state.specs.Words.{asked_size, standing_in, standing_words, words_right, request_of, held_in, state_with, state_in, standing_of}
use Rattle.cache_state.specs.Reaction.{refusal, Leaves, CacheReacted}
use Rattle.cache_state.specs.Begin.{keeping}
use Rattle.cache_state.proofs.WordLaws.{words_right_lem, mark-same, put_as, state-back}
use Rattle.cache_state.proofs.ReactLaws.{same-reaction, refused_as}
use Rattle.cache_receive.specs.Receive.{ended_as, primed_as, next_awaited}

-- the mark of a cache is 0 or 1
pub mark-low : (asked : List ℕ) {t : CacheStanding} → t ≡ standing_in asked → words_right asked ≡ true → t.primed ≤ 1
unfolding standing_in
mark-low asked {t} e h = rw e (words_right_lem asked h).primed

-- a turn has 16 bits
pub turn_low : (asked : List ℕ) {t : CacheStanding} → t ≡ standing_in asked → words_right asked ≡ true → t.turn < 65536
unfolding standing_in
turn_low asked {t} e h = rw e (words_right_lem asked h).turn

-- how a request stands that has ended, and one that goes on
abbrev pub ended_standing : CacheStanding → ℕ → ℕ → ℕ → CacheStanding
ended_standing t primed stage status =
    record {
      cluster_count = t.cluster_count;
      count = t.count;
      primed = primed;
      used = t.used;
      exchange = t.exchange;
      stage = stage;
      turn = t.turn;
      status = status;
      endpoint = t.endpoint;
      cluster = t.cluster;
      attribute = t.attribute;
      unknown = t.unknown;
      len = t.len;
    }

abbrev pub next_standing : CacheStanding → ℕ → CacheStanding
next_standing t len =
    record {
      cluster_count = t.cluster_count;
      count = t.count;
      primed = t.primed;
      used = t.used;
      exchange = t.exchange;
      stage = t.stage;
      turn = t.turn + 1;
      status = t.status;
      endpoint = t.endpoint;
      cluster = t.cluster;
      attribute = t.attribute;
      unknown = t.unknown;
      len = len;
    }

module _ (clusters keys versions kinds words order lengths : List ℕ) where
  -- a refusal, of the state that was read
  pub refused-by : {asked kept page : List ℕ} {t : CacheStanding} → t ≡ standing_in asked → {n : ℕ} {r : Outcome} → r ≡ record { number = n; len = 0 } → {old : List ℕ} → CacheReacted (refusal n (state_with clusters keys versions kinds words order lengths t kept) page) r (state_in clusters keys versions kinds words order lengths asked kept) asked asked page old old
  refused-by {asked} {kept} {page} {t} e {n} q =
      same-reaction (ap (λ (u : CacheStanding). refusal n (state_with clusters keys versions kinds words order lengths u kept) page) e) (refused_as clusters keys versions kinds words order lengths asked kept page q)

  -- and where the columns and the page turn out as they were
  pub refused-still : {h : Cached} {asked kept page new : List ℕ} {t : CacheStanding} → h ≡ held_in clusters keys versions kinds words order lengths t → new ≡ page → t ≡ standing_in asked → {n : ℕ} {r : Outcome} → r ≡ record { number = n; len = 0 } → {old : List ℕ} → CacheReacted (refusal n (state_with clusters keys versions kinds words order lengths t kept) page) r (state_in h.clusters h.keys h.versions h.kinds h.words h.order h.lengths asked kept) asked asked new old old
  refused-still {h} {asked} {kept} {page} {new} {t} a b e {n} {r} q {old} =
      subst (λ (x : Cached). CacheReacted (refusal n (state_with clusters keys versions kinds words order lengths t kept) page) r (state_in x.clusters x.keys x.versions x.kinds x.words x.order x.lengths asked kept) asked asked new old old) (sym a)
      (subst (λ (y : List ℕ). CacheReacted (refusal n (state_with clusters keys versions kinds words order lengths t kept) page) r (state_in clusters keys versions kinds words order lengths asked kept) asked asked y old old) (sym b) (refused-by e q))

  module _ {asked : List ℕ} (h : words_right asked ≡ true) (size : length asked ≡ asked_size) (t : CacheStanding) where
    -- a state put over the words
    left_as : (s : CacheState) {u : CacheStanding} {new kept : List ℕ} → u ≡ standing_of s → new ≡ store asked 0 (standing_words u) → kept ≡ s.asked.kept → let c = s.held in Leaves s (state_in c.clusters c.keys c.versions c.kinds c.words c.order c.lengths new kept) asked new
    left_as s e n k =
        let w = put_as asked h s e n in
        let c = s.held in
        record {
          state = (λ j. state_in c.clusters c.keys c.versions c.kinds c.words c.order c.lengths (w j) (k j)) ∙ state-back asked h size s;
          words = w;
        }

    -- ended with a status
    pub left_ended : {new kept : List ℕ} (code : ℕ) → t.primed ≤ 1 → new ≡ store asked 0 (standing_words (ended_standing t t.primed with_status code)) → Leaves (record { held = held_in clusters keys versions kinds words order lengths t; asked = ended_as (request_of t kept) with_status code }) (state_in clusters keys versions kinds words order lengths new kept) asked new
    unfolding ended_as
    left_ended {new} {kept} code low n =
        left_as (record { held = held_in clusters keys versions kinds words order lengths t; asked = ended_as (request_of t kept) with_status code })
        (ap (λ (p : ℕ). ended_standing t p with_status code) (sym (mark-same t.primed low))) n refl

    -- ended on its last part
    pub left-last : {new kept : List ℕ} → new ≡ store asked 0 (standing_words (ended_standing t 1 last_part 0)) → Leaves (record { held = primed_as (held_in clusters keys versions kinds words order lengths t); asked = ended_as (request_of t kept) last_part 0 }) (state_in clusters keys versions kinds words order lengths new kept) asked new
    unfolding ended_as primed_as
    left-last {new} {kept} n =
        left_as (record { held = primed_as (held_in clusters keys versions kinds words order lengths t); asked = ended_as (request_of t kept) last_part 0 }) refl n refl

    -- gone on with a message
    pub left-on : {new new_kept : List ℕ} (kept m : List ℕ) → t.primed ≤ 1 → new ≡ store asked 0 (standing_words (next_standing t (length m))) → new_kept ≡ store kept 0 m → Leaves (record { held = held_in clusters keys versions kinds words order lengths t; asked = keeping (next_awaited (request_of t kept)) m }) (state_in clusters keys versions kinds words order lengths new new_kept) asked new
    unfolding keeping
    left-on {new} kept m low n k =
        left_as (record { held = held_in clusters keys versions kinds words order lengths t; asked = keeping (next_awaited (request_of t kept)) m })
        (λ j. record {
          cluster_count = t.cluster_count;
          count = t.count;
          primed = sym (mark-same t.primed low) j;
          used = t.used;
          exchange = t.exchange;
          stage = t.stage;
          turn = t.turn + 1;
          status = t.status;
          endpoint = t.endpoint;
          cluster = t.cluster;
          attribute = t.attribute;
          unknown = t.unknown;
          len = length m;
        }) n k
