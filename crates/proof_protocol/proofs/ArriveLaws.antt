-- The hypotheses of progress can always be met: whatever has happened, a read that begins can be brought to its end.
use mathlib.Core.Path.{◌≡◌, refl, sym, ◌∙◌, ap, subst}
use mathlib.Core.Logic.{◌⊎◌, inl, inr}
use mathlib.Core.Bool.{Bool, true, false, ◌&&◌}
use mathlib.Core.List.{List, [], ◌∷◌, Memᴰ}
use Prim.Native.Nat.{ℕ, zero, suc, ◌+◌, ◌≤◌, ◌<◌}
use native.Mathlib.Omega.{arith}
use lib.Dec.{T, eqb}
use Rattle.proof_protocol.specs.Model.{Filter, Node, Message, read, success, Part, Cache, System, exchange_of, send, send_again, close, store_all, written, serve, begin_read, accept, awaited, receive, FiltersFor}
use Rattle.proof_protocol.specs.Steps.{Step, begins_read, serves, receives, Run, none, then, Reach, NoneBegun, Heard, Got, join}
use Rattle.proof_protocol.specs.Claims.{most_parts, Complete}
use Rattle.proof_protocol.proofs.SmallLaws.{T_true, all_cons, T_of}
use Rattle.proof_protocol.proofs.Invariant.{Reading, told, fresh, behind}
use Rattle.proof_protocol.proofs.ServeLaws.{most-one, most-all}
use Rattle.proof_protocol.proofs.Inductive.{reach-inv}
use Rattle.proof_protocol.proofs.OpenLaws.{Served, served, reach-open, begin, next, again, storing, shuts, silent}
use Rattle.proof_protocol.proofs.ProgressLaws.{T_and, eqb_of, Answer, VersionFilters, says}

module _ {Value : Type 0} where
  served-same : (node : Node Value) {s t : System Value} → Served node s t → (t.cache ≡ s.cache) × (t.messages ≡ s.messages)
  unfolding send send_again written store_all close
  served-same node (begin x filters n l i) = (refl, refl)
  served-same node (next x n e i g) = (refl, refl)
  served-same node again = (refl, refl)
  served-same node {s} (storing x stores l i) = (refl, refl)
  served-same node (shuts x t i) = (refl, refl)
  served-same node silent = (refl, refl)

  -- in a run of the exchange x all has arrived but the newest message
  record Almost (node : Node Value) {s t : System Value} (run : Run node s t) : Type 0 where
    none-begun : NoneBegun run
    exchange : t.cache.exchange ≡ s.cache.exchange
    reading : t.cache.reading ≡ true
    newest : Message
    older : List Message
    is : t.messages ≡ newest ∷ older
    wants : VersionFilters t.cache newest
    heard : (m : Message) → Memᴰ m older → exchange_of m ≡ s.cache.exchange → Heard m run
    parts : (m : Part Value) → Memᴰ m t.parts → m.exchange ≡ s.cache.exchange → Got m run

  -- one more round: the newest message arrives, and the part that it gets
  module _ (node : Node Value) {s t : System Value} (r : Reach node s) (run : Run node s t) (k : Almost node run) where
    here : Memᴰ k.newest t.messages
    here = subst (λ (l : List Message). Memᴰ k.newest l) (sym k.is) (Memᴰ.head refl)

    heard-by : System Value
    heard-by = serve node t k.newest 0 []

    answer : Answer t heard-by
    unfolding heard-by
    answer = says node t (join r run) k.reading 0 [] k.newest here k.wants

    same : (heard-by.cache ≡ t.cache) × (heard-by.messages ≡ t.messages)
    unfolding heard-by
    same = served-same node (served node t k.newest 0 [] here)

    got : Memᴰ answer.part heard-by.parts
    got = subst (λ (l : List (Part Value)). Memᴰ answer.part l) (sym answer.says) (Memᴰ.head refl)

    hearing : Step node t heard-by
    unfolding heard-by
    hearing = serves k.newest 0 [] here

    longer : Run node s (receive heard-by answer.part)
    longer = then (then run hearing) (receives answer.part got)

    all-heard : (m : Message) → Memᴰ m t.messages → exchange_of m ≡ s.cache.exchange → Heard m longer
    unfolding longer hearing heard-by
    all-heard =
        subst (λ (l : List Message). (m : Message) → Memᴰ m l → exchange_of m ≡ s.cache.exchange → Heard m longer) (sym k.is)
        (all_cons (λ (m : Message). exchange_of m ≡ s.cache.exchange → Heard m longer) (λ e. inl (inr refl)) (λ m i e. inl (inl (k.heard m i e))))

    all-got : (m : Part Value) → Memᴰ m heard-by.parts → m.exchange ≡ s.cache.exchange → Got m longer
    unfolding longer
    all-got =
        subst (λ (l : List (Part Value)). (m : Part Value) → Memᴰ m l → m.exchange ≡ s.cache.exchange → Got m longer) (sym answer.says)
        (all_cons (λ (m : Part Value). m.exchange ≡ s.cache.exchange → Got m longer) (λ e. inr refl) (λ m i e. inl (inl (k.parts m i e))))

    wanted : T (awaited heard-by.cache answer.part)
    wanted =
        subst (λ (c : Cache Value). T (awaited c answer.part)) (sym same.0)
        (T_and (eqb answer.part.exchange t.cache.exchange && eqb answer.part.turn t.cache.next) t.cache.reading
        (T_and (eqb answer.part.exchange t.cache.exchange) (eqb answer.part.turn t.cache.next) (eqb_of answer.part.exchange t.cache.exchange answer.exchange) (eqb_of answer.part.turn t.cache.next answer.turn))
        (T_of t.cache.reading k.reading))

    after : System Value
    after = receive heard-by answer.part

    accepted : after ≡ accept heard-by answer.part
    unfolding after receive
    accepted = rw (T_true (awaited heard-by.cache answer.part) wanted)

    after-parts : after.parts ≡ heard-by.parts
    unfolding accept
    after-parts = ap (λ (z : System Value). z.parts) accepted

    after-exchange : after.cache.exchange ≡ t.cache.exchange
    unfolding accept
    after-exchange = ap (λ (z : System Value). z.cache.exchange) accepted ∙ ap (λ (c : Cache Value). c.exchange) same.0

    after_next : after.cache.next ≡ suc answer.part.turn
    unfolding accept
    after_next = ap (λ (z : System Value). z.cache.next) accepted

    got-all : (m : Part Value) → Memᴰ m after.parts → m.exchange ≡ s.cache.exchange → Got m longer
    got-all = subst (λ (l : List (Part Value)). (m : Part Value) → Memᴰ m l → m.exchange ≡ s.cache.exchange → Got m longer) (sym after-parts) all-got

    -- all has arrived, or the read goes on
    round : Complete node s ⊎ ((t' : System Value) × (run' : Run node s t') × (Almost node run') × (t'.cache.next ≡ suc t.cache.next))
    unfolding accept after longer hearing heard-by
    round = go answer.part.more refl
      where
        go : (b : Bool) → answer.part.more ≡ b → Complete node s ⊎ ((t' : System Value) × (run' : Run node s t') × (Almost node run') × (t'.cache.next ≡ suc t.cache.next))
        go false e = inl record { end = after; run = longer; none-begun = ((k.none-begun, tt), tt); arrived = record { messages = subst (λ (l : List Message). (m : Message) → Memᴰ m l → exchange_of m ≡ s.cache.exchange → Heard m longer) (sym told) all-heard; parts = got-all } }
          where
            told : after.messages ≡ t.messages
            told = ap (λ (z : System Value). z.messages) accepted ∙ rw e same.1
        go true e =
            inr (
              after,
              longer,
              record {
                none-begun = ((k.none-begun, tt), tt);
                exchange = after-exchange ∙ k.exchange;
                reading = ap (λ (z : System Value). z.cache.reading) accepted ∙ e;
                newest = success answer.part.exchange answer.part.turn;
                older = t.messages;
                is = ap (λ (z : System Value). z.messages) accepted ∙ rw e (ap (λ (l : List Message). success answer.part.exchange answer.part.turn ∷ l) same.1);
                wants = (answer.exchange ∙ sym after-exchange, after_next);
                heard = all-heard;
                parts = got-all;
              },
              after_next ∙ ap suc answer.turn,
            )

  open-bound : (node : Node Value) (s : System Value) → Reach node s → s.cache.reading ≡ true → s.cache.next ≤ most_parts node.readable
  open-bound node s r e = go ((reach-inv node r).cache.at e)
    where
      go : Reading node s.parts s.cache → s.cache.next ≤ most_parts node.readable
      go (fresh z f) = omega (arith, most-one node.readable)
      go (behind m i x n g cov vou) = omega (arith, ((reach-inv node r).parts m i).short g, most-all node.readable)

  rounds : (node : Node Value) (n : ℕ) {s t : System Value} → Reach node s → (run : Run node s t) → Almost node run → most_parts node.readable < n + t.cache.next → Complete node s
  rounds node zero {s} {t} r run k l = absurd (omega (arith, open-bound node t (join r run) k.reading))
  rounds node (suc n) {s} {t} r run k l = go (λ t' run' k' e. rounds node n r run' k' (omega arith)) (round node r run k)
    where
      go : ((t' : System Value) (run' : Run node s t') → Almost node run' → t'.cache.next ≡ suc t.cache.next → Complete node s)
          → Complete node s ⊎ ((t' : System Value) × (run' : Run node s t') × (Almost node run') × (t'.cache.next ≡ suc t.cache.next)) → Complete node s
      go on (inl c) = c
      go on (inr c) = on c.0 c.1 c.2 c.3

  pub completes : (node : Node Value) {s : System Value} → Reach node s → (filters : List Filter) → FiltersFor s.cache filters → Complete node (begin_read s filters)
  unfolding begin_read
  completes node {s} r filters f =
      rounds node (suc (most_parts node.readable)) (then r (begins_read filters f)) none
      record {
        none-begun = tt;
        exchange = refl;
        reading = refl;
        newest = read (suc s.cache.exchange) filters;
        older = s.messages;
        is = refl;
        wants = (refl, refl);
        heard = λ m i e. absurd (omega (arith, (reach-inv node r).cache.ids m i));
        parts = λ m i e. absurd (omega (arith, ((reach-inv node r).sent m i).begun, (reach-open node r).last));
      }
      (omega arith)
