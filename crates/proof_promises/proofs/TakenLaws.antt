-- WHAT THE CACHE MAKES OF A REPLY: the one that ends a read is the part that the protocol awaits.
use mathlib.Core.Path.{◌≡◌, refl, sym, subst}
use mathlib.Core.Logic.{◌⊎◌, inl, inr}
use mathlib.Core.Bool.{true}
use mathlib.Core.List.{List, Memᴰ}
use Prim.Native.Nat.{ℕ, ◌≤◌}
use borrow.Author.Tests.{ltb-true, ltb-false}
use lib.Dec.{T, ltb}
use Rattle.tlv_reader.specs.Value.{Datum}
use Rattle.node_schema.proofs.BoolLaws.{by-test}
use Rattle.im_envelope.specs.Envelope.{max_message}
use Rattle.cache_receive.specs.Receive.{received}
use Rattle.proof_protocol.specs.Model.{Part, System, awaited, receive}
use Rattle.proof_protocol.specs.Steps as model
use Rattle.proof_protocol.proofs.SmallLaws.{T_false, bool_cases}
use Rattle.proof_refinement.specs.Bytes.{part_bytes}
use Rattle.proof_cache_steps.proofs.Reactions.{Takes}
use Rattle.proof_cache_steps.proofs.AnswerLaws.{answer-taken, room_small}
use Rattle.proof_promises.specs.World.{Plan, World, Start, after_cache}
use Rattle.proof_promises.specs.Follows.{ReplyOf, part, answer, Stands, node}
use Rattle.proof_promises.proofs.StepLaws.{rules, older, unbegun, taken, receive-same, takes_part_lem}

abbrev pub after : World → List ℕ → ℕ → World
after u m room = after_cache u (received u.page u.cache m room)

-- what the cache makes of a reply: nothing, or it is a part that it takes as the protocol does
module _ (p : Plan) (b : Start p) (u : World) (s : System Datum) (h : Stands p u s) (reach : model.Reach (node p b) s) (m : List ℕ) (room : ℕ) (i : Memᴰ m u.replies) where
  abbrev TakenAs : Type 0
  TakenAs = (q : Part Datum) × Memᴰ q s.parts × (m ≡ part_bytes p.words q) × Stands p (after u m room) (receive s q)

  reply-taken : Stands p (after u m room) s ⊎ TakenAs
  reply-taken = by-test (ltb room max_message) (λ t. inl (unbegun p b u s h reach _ (room_small p.words (rules p b) u.page u.cache s u.requests h.cache (older p b u s h reach) m room (ltb-true room max_message t)))) (λ f. full (ltb-false room max_message f) (h.replies m i))
    where
      full : max_message ≤ room → ReplyOf p.words u.requests s.parts m → Stands p (after u m room) s ⊎ TakenAs
      full l (part q j e) =
          let same = receive-same p b u s h reach q in
          inr (
            q,
            j,
            e,
            taken p b u s h reach _ (receive s q) same.0 same.1 same.2
                (subst (λ (z : List ℕ). Takes p.words u.requests s (received u.page u.cache z room) (receive s q)) (sym e) (takes_part_lem p b u s h reach q j room l)),
          )
      full l (answer n o e fn fo wrote) =
          inl (taken p b u s h reach _ s refl refl refl
          (subst (λ (z : List ℕ). Takes p.words u.requests s (received u.page u.cache z room) s) (sym e)
          (answer-taken p.words (rules p b) u.page u.cache s u.requests h.cache (older p b u s h reach) n o fn fo wrote room l)))

  -- what ends a read that is open is a part awaited
  pub ended_by_lem : s.cache.reading ≡ true → ((t : System Datum) → Stands p (after u m room) t → t.cache.reading ≡ true → ⊥)
      → (q : Part Datum) × Memᴰ q s.parts × (m ≡ part_bytes p.words q) × T (awaited s.cache q)
  unfolding receive
  ended_by_lem open-read over = go reply-taken
    where
      go : Stands p (after u m room) s ⊎ TakenAs → (q : Part Datum) × Memᴰ q s.parts × (m ≡ part_bytes p.words q) × T (awaited s.cache q)
      go (inl k) = absurd (over s k open-read)
      go (inr (q, j, e, k)) = bool_cases (awaited s.cache q) (λ t. (q, j, e, t)) (λ n. absurd (over s (rw (T_false (awaited s.cache q) n) at k) open-read))
