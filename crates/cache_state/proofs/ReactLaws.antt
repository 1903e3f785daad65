-- What the code answers, as a reaction.
use mathlib.Core.Path.{◌≡◌, refl, sym, ap, subst, ◌∙◌}
use mathlib.Core.List.{List}
use Prim.Native.Nat.{ℕ, ◌-◌, ◌≤◌}
use native.Mathlib.Omega.{arith}
use lib.ListN.{length, take, drop}
use lib.Seq.{length-take-le}
use Rattle.base_octets.specs.Store.{store, Stored}
use Rattle.base_octets.proofs.StoreLaws.{store-back, same_length}
use Rattle.cache_state.specs.declared.CacheState.{CacheState}
use Rattle.cache_state.specs.declared.Outcome.{Outcome}
use Rattle.cache_state.specs.Words.{state_in, put_state}
use Rattle.cache_state.specs.Begin.{kept_message}
use Rattle.cache_state.specs.Reaction.{CacheReaction, refusal, Silent, unsent, Leaves, CacheReacted}
use Rattle.cache_state.proofs.WordLaws.{state-same}

-- a reaction by another that it is, and a message by another
pub same-reaction : {x y : CacheReaction} → x ≡ y → {r : Outcome} {s : CacheState} {asked new_asked page old new : List ℕ} → CacheReacted y r s asked new_asked page old new → CacheReacted x r s asked new_asked page old new
same-reaction e {r} {s} {asked} {new_asked} {page} {old} {new} k = subst (λ (z : CacheReaction). CacheReacted z r s asked new_asked page old new) (sym e) k

pub stored-as : {old new m n : List ℕ} {end : ℕ} → m ≡ n → Stored old 0 m new end → Stored old 0 n new end
stored-as {old} {new} {m} {n} {end} e k = subst (λ (l : List ℕ). Stored old 0 l new end) e k

module _ (clusters keys versions kinds words order lengths asked kept page : List ℕ) where
  abbrev st : CacheState
  st = state_in clusters keys versions kinds words order lengths asked kept

  -- a refusal
  pub refused_as : {n : ℕ} {r : Outcome} → r ≡ record { number = n; len = 0 } → {old : List ℕ} → CacheReacted (refusal n st page) r st asked asked page old old
  unfolding store
  refused_as e = record {
    number = ap (λ (x : Outcome). x.number) e;
    len = ap (λ (x : Outcome). x.len) e;
    state = refl;
    words = sym (state-same clusters keys versions kinds words order lengths asked kept);
    texts = refl;
    buffer = refl;
  }

  -- the kept message sent again
  pub resent-as : {old new : List ℕ} → st.asked.len ≤ length kept → {r : Outcome} → r ≡ record { number = 0; len = st.asked.len } → new ≡ store old 0 (take st.asked.len kept) → CacheReacted (record { number = 0; state = st; page = page; reply = kept_message st.asked }) r st asked asked page old new
  resent-as l e b = record {
    number = ap (λ (x : Outcome). x.number) e;
    len = ap (λ (x : Outcome). x.len) e ∙ sym (length-take-le st.asked.len kept l);
    state = refl;
    words = sym (state-same clusters keys versions kinds words order lengths asked kept);
    texts = refl;
    buffer = b;
  }

-- nothing sent
pub unsent-as : (q : Silent) {r : Outcome} {s : CacheState} {asked new_asked : List ℕ} (page : List ℕ) → r ≡ record { number = q.number; len = 0 } → Leaves q.state s asked new_asked → {old : List ℕ} → CacheReacted (unsent q page) r s asked new_asked page old old
unfolding store
unsent-as q page e l = record {
  number = ap (λ (x : Outcome). x.number) e;
  len = ap (λ (x : Outcome). x.len) e;
  state = l.state;
  words = l.words;
  texts = refl;
  buffer = refl;
}

-- a message that stands at the start of the buffer
module _ {old new message : List ℕ} {end : ℕ} (s : Stored old 0 message new end) (fits : end ≤ length old) where
  pub ends-within : end ≤ length new
  ends-within = omega (arith, fits, same_length s)

  pub message-there : take (end - 0) (drop 0 new) ≡ message
  message-there =
      let n : end - 0 ≡ length message = omega (arith, s.place) in
      ap (λ (k : ℕ). take k (drop 0 new)) n ∙ ap (λ (l : List ℕ). take (length message) (drop 0 l)) s.content ∙ store-back old 0 message (omega (arith, fits, s.place))

  pub message-length : length (take (end - 0) (drop 0 new)) ≡ end
  message-length = omega (arith, ap length message-there, s.place)

  -- it was sent, and what it leaves is kept with it
  pub sent-as : {r : Outcome} (after : List ℕ → CacheState) {now : CacheState} {asked new_asked : List ℕ} (page : List ℕ) → r ≡ record { number = 0; len = length (take (end - 0) (drop 0 new)) } → Leaves (after (take (end - 0) (drop 0 new))) now asked new_asked → CacheReacted (record { number = 0; state = after message; page = page; reply = message }) r now asked new_asked page old new
  sent-as after {asked = asked} page e l = record {
    number = ap (λ (x : Outcome). x.number) e;
    len = ap (λ (x : Outcome). x.len) e ∙ ap length message-there;
    state = l.state ∙ ap after message-there;
    words = l.words ∙ ap (λ (m : List ℕ). put_state asked (after m)) message-there;
    texts = refl;
    buffer = s.content;
  }
