-- EACH STEP THAT THE SECOND HALF SPEAKS OF is the only one of its kind in a run.
use Rattle.std.specs.Prelude.{Some, None, Option}
use mathlib.Core.Path.{◌≡◌, refl, sym, ap, ◌∙◌, subst}
use mathlib.Core.Logic.{◌⊎◌, inl, inr}
use mathlib.Core.Bool.{true, false, true≢false}
use mathlib.Core.List.{List, Memᴰ}
use Prim.Native.Nat.{ℕ, ◌≤◌, ◌<◌}
use native.Mathlib.Omega.{arith}
use borrow.Author.Tests.{eq-eqb, ne_eqb}
use lib.Dec.{eqb}
use Rattle.tlv_reader.specs.Value.{Datum}
use Rattle.im_envelope.specs.declared.Fields.{Fields}
use Rattle.im_envelope.specs.Envelope.{envelope_in}
use Rattle.im_exchange.specs.Rules.{report_opcode}
use Rattle.cache_state.specs.State.{reading, last_part}
use Rattle.proof_protocol.specs.Model.{System, start}
use Rattle.proof_protocol.specs.Steps as model
use Rattle.proof_protocol.proofs.CacheLaws.{awaited-is}
use Rattle.proof_protocol.proofs.Inductive.{reach-inv}
use Rattle.proof_protocol.proofs.OnceLaws as protocol
use Rattle.proof_refinement.specs.Bytes.{part_bytes}
use Rattle.proof_promises.specs.World.{Plan, subject_of, World, Start, after_server, after_cache, answered, altered}
use Rattle.proof_promises.specs.Runs.{Step, alters, begins_read, begins_write, resends, hears, hears_other, gets, Run, none, then, Reach, join, Passes, step_count, index_of, Same}
use Rattle.proof_promises.specs.Claims.{Taking, Making, Ending, Once}
use Rattle.proof_promises.proofs.MessageLaws.{part-envelope, answer-envelope}
use Rattle.proof_promises.specs.Follows.{ReplyOf, part, answer, Stands, node, Follows}
use Rattle.proof_promises.proofs.Stands.{with-old}
use Rattle.proof_promises.proofs.StepLaws.{opcode_in, Moves, stays, steps, Shadow, shadow}
use Rattle.proof_promises.proofs.FirstLaws.{from-fresh}
use Rattle.proof_promises.proofs.TakenLaws.{after, ended_by_lem}

module _ (p : Plan) (b : Start p) where
  index_in_lem : {u v : World} (run : Run p u v) (x y : World) (i : Passes run x y) → index_of run x y i < step_count run
  index_in_lem none x y i = absurd i
  index_in_lem (then run step) x y (inl i) = omega (arith, index_in_lem run x y i)
  index_in_lem (then run step) x y (inr i) = omega arith

  -- WHAT STAYS TRUE becomes true in one step of a run
  module _ (P : World → Type 0) (on : (x y : World) → Reach p b x → Step p x y → P x → P y) where
    from_then : {u v : World} → Reach p b u → (run : Run p u v) (x y : World) → Passes run x y → P y → P v
    from_then reach none x y i h = absurd i
    from_then {u} {v} reach (then {v = v'} run step) x y i h = go (λ k. from_then reach run x y k h) i
      where
        go : (Passes run x y → P v') → Passes run x y ⊎ ((x ≡ v') × (y ≡ v)) → P v
        go f (inl k) = on v' v (join reach run) step (f k)
        go f (inr k) = subst P k.1 h

    one-step : {u v : World} → Reach p b u → (run : Run p u v) (x y x' y' : World) (i : Passes run x y) (j : Passes run x' y') → (P x → ⊥) → P y → (P x' → ⊥) → P y' → Same run x y x' y' i j
    one-step reach none x y x' y' i j n h n' h' = absurd i
    one-step reach (then run step) x y x' y' (inl i) (inl j) n h n' h' = let k = one-step reach run x y x' y' i j n h n' h' in record { index = k.index; from = k.from; to = k.to }
    one-step reach (then run step) x y x' y' (inl i) (inr j) n h n' h' = absurd (n' (subst P (sym j.0) (from_then reach run x y i h)))
    one-step reach (then run step) x y x' y' (inr i) (inl j) n h n' h' = absurd (n (subst P (sym i.0) (from_then reach run x' y' j h')))
    one-step reach (then run step) x y x' y' (inr i) (inr j) n h n' h' = record { index = refl; from = i.0 ∙ sym j.0; to = i.1 ∙ sym j.1 }

    -- and no later than a step after which it is true
    no-later : {u v : World} → Reach p b u → (run : Run p u v) (x y x' y' : World) (i : Passes run x y) (j : Passes run x' y') → (P x → ⊥) → P y' → index_of run x y i ≤ index_of run x' y' j
    no-later reach none x y x' y' i j n h = absurd i
    no-later reach (then run step) x y x' y' (inl i) (inl j) n h = no-later reach run x y x' y' i j n h
    no-later reach (then run step) x y x' y' (inl i) (inr j) n h = omega (arith, index_in_lem run x y i)
    no-later reach (then run step) x y x' y' (inr i) (inl j) n h = absurd (n (subst P (sym i.0) (from_then reach run x' y' j h)))
    no-later reach (then run step) x y x' y' (inr i) (inr j) n h = omega arith

  -- the states before and after a step can be reached
  passes-reach : {u v : World} → Reach p b u → (run : Run p u v) (x y : World) → Passes run x y → Reach p b x × Reach p b y
  passes-reach reach none x y i = absurd i
  passes-reach {u} {v} reach (then {v = v'} run step) x y i = go (λ k. passes-reach reach run x y k) i
    where
      go : (Passes run x y → Reach p b x × Reach p b y) → Passes run x y ⊎ ((x ≡ v') × (y ≡ v)) → Reach p b x × Reach p b y
      go f (inl k) = f k
      go f (inr k) = (subst (Reach p b) (sym k.0) (join reach run), subst (Reach p b) (sym k.1) (then (join reach run) step))

  -- what every step of the protocol keeps, every step of the ends keeps
  kept : (Q : System Datum → Type 0) → ((s t : System Datum) → model.Step (node p b) s t → Q s → Q t) → (P : World → Type 0)
      → ((x : World) (s : System Datum) → Stands p x s → P x → Q s) → ((x : World) (s : System Datum) → Stands p x s → Q s → P x)
      → (x y : World) → Reach p b x → Step p x y → P x → P y
  kept Q on P to from x y reach step h =
      let f : Follows p b reach (start (node p b)) = from-fresh p b reach in
      let k : Shadow p b step f.end = shadow p b x f.end f.stands f.follows step in
      from y k.next k.stands (go k.move (to x f.end f.stands h))
    where
      go : {s t : System Datum} → Moves p b s t → Q s → Q t
      go stays q = q
      go {s} {t} (steps step) q = on s t step q

  -- THE TAKING of a request: the server's exchanges rise
  abbrev Taken : ℕ → World → Type 0
  Taken exchange u = exchange ≤ u.server.row.progress.last

  taken-stays : (exchange : ℕ) (x y : World) → Reach p b x → Step p x y → Taken exchange x → Taken exchange y
  taken-stays exchange =
      kept (λ (s : System Datum). exchange ≤ s.row.exchange) (λ s t step h. omega (arith, h, protocol.step-rises (node p b) step)) (Taken exchange)
      (λ x s h q. omega (arith, q, h.server.row.exchange)) (λ x s h q. omega (arith, q, h.server.row.exchange))

  -- THE MAKING of a reply: what is made stays
  made-stays : (m : List ℕ) (x y : World) → Reach p b x → Step p x y → Memᴰ m x.replies → Memᴰ m y.replies
  unfolding after_server after_cache
  made-stays m x y r (alters e c a src new t) i = with-old (altered p x e c a src new).reply x.replies m i
  made-stays m x y r (begins_read room) i = i
  made-stays m x y r (begins_write e c a given version src new room f l t) i = i
  made-stays m x y r (resends room) i = i
  made-stays m x y r (hears q room j) i = with-old (answered p x (subject_of p) q room).reply x.replies m i
  made-stays m x y r (hears_other subject q room n) i = with-old (answered p x subject q room).reply x.replies m i
  made-stays m x y r (gets q room j) i = i

  -- THE ENDING of a read: an exchange that is over stays so
  abbrev Over : ℕ → World → Type 0
  Over exchange u = (exchange < u.cache.asked.exchange) ⊎ ((u.cache.asked.exchange ≡ exchange) × (eqb u.cache.asked.stage reading ≡ false))

  over-to : (exchange : ℕ) (x : World) (s : System Datum) → Stands p x s → Over exchange x → protocol.Over exchange s
  over-to exchange x s h (inl l) = inl (omega (arith, l, h.cache.exchange))
  over-to exchange x s h (inr k) = inr (h.cache.exchange ∙ k.0, h.cache.reading-is ∙ k.1)

  over-from : (exchange : ℕ) (x : World) (s : System Datum) → Stands p x s → protocol.Over exchange s → Over exchange x
  over-from exchange x s h (inl l) = inl (omega (arith, l, h.cache.exchange))
  over-from exchange x s h (inr k) = inr (sym h.cache.exchange ∙ k.0, sym h.cache.reading-is ∙ k.1)

  over-stays : (exchange : ℕ) (x y : World) → Reach p b x → Step p x y → Over exchange x → Over exchange y
  over-stays exchange = kept (protocol.Over exchange) (λ s t step h. protocol.step-over (node p b) step exchange h) (Over exchange) (over-to exchange) (over-from exchange)

  module _ {u v : World} (run : Run p u v) (exchange : ℕ) {m : List ℕ} (k : Ending run exchange m) where
    ending-open : Over exchange k.at → ⊥
    ending-open (inl l) = absurd (omega (arith, l, k.before.1))
    ending-open (inr q) = true≢false (sym (eq-eqb k.at.cache.asked.stage reading k.before.0) ∙ q.1)

    ending-over : Over exchange k.next
    ending-over = inr (k.after.1, ne_eqb k.next.cache.asked.stage reading (λ e. omega (arith, e, k.after.0)))

  -- and the reply that it takes is one
  one-reply : (x : World) → Reach p b x → (m m' : List ℕ) (room room' : ℕ) → Memᴰ m x.replies → Memᴰ m' x.replies → x.cache.asked.stage ≡ reading
      → (after x m room).cache.asked.stage ≡ last_part → (after x m' room').cache.asked.stage ≡ last_part → m ≡ m'
  one-reply x reach m m' room room' i i' open-read e e' =
      let (q, j, is, t) = ended_by_lem p b x f.end f.stands f.follows m room i reads (λ s h. shut (after x m room) s h e) in
      let (q', j', is', t') = ended_by_lem p b x f.end f.stands f.follows m' room' i' reads (λ s h. shut (after x m' room') s h e') in
      let a = awaited-is f.end.cache q t in
      let a' = awaited-is f.end.cache q' t' in
      is ∙ ap (part_bytes p.words) (protocol.part-once (node p b) f.follows q q' j j' (a.0 ∙ sym a'.0) (a.1 ∙ sym a'.1)) ∙ sym is'
    where
      f : Follows p b reach (start (node p b))
      f = from-fresh p b reach

      reads : f.end.cache.reading ≡ true
      reads = f.stands.cache.reading-is ∙ eq-eqb x.cache.asked.stage reading open-read

      shut : (y : World) (s : System Datum) → Stands p y s → y.cache.asked.stage ≡ last_part → s.cache.reading ≡ true → ⊥
      shut y s h z r = true≢false (sym r ∙ h.cache.reading-is ∙ ne_eqb y.cache.asked.stage reading (λ z'. omega (arith, z, z')))

  ending-once : {u v : World} → Reach p b u → (run : Run p u v) (exchange : ℕ) (m m' : List ℕ) (k : Ending run exchange m) (l : Ending run exchange m') → (m ≡ m') × Same run k.at k.next l.at l.next k.passes l.passes
  ending-once reach run exchange m m' k l =
      let same =
      one-step (Over exchange) (over-stays exchange) reach run k.at k.next l.at l.next k.passes l.passes
      (ending-open run exchange k) (ending-over run exchange k) (ending-open run exchange l) (ending-over run exchange l) in
      let there = subst (λ (x : World). Memᴰ m' x.replies) (sym same.from) l.made in
      let ends = subst (λ (x : World). (after x m' l.room).cache.asked.stage ≡ last_part) (sym same.from) (subst (λ (y : World). y.cache.asked.stage ≡ last_part) l.taken l.after.0) in
      (one-reply k.at (passes-reach reach run k.at k.next k.passes).0 m m' k.room l.room k.made there k.before.0 (subst (λ (y : World). y.cache.asked.stage ≡ last_part) k.taken k.after.0) ends, same)

  -- a report of an exchange is made when that is taken
  report-taken : {u : World} → Reach p b u → (m : List ℕ) → Memᴰ m u.replies → (f : Fields) → envelope_in m ≡ Some f → f.opcode ≡ report_opcode → Taken f.exchange u
  report-taken {u} reach m i f e o = go (g.stands.replies m i)
    where
      g : Follows p b reach (start (node p b))
      g = from-fresh p b reach

      exchange_in : Option Fields → ℕ
      exchange_in None = 0
      exchange_in (Some x) = x.exchange

      go : ReplyOf p.words u.requests g.end.parts m → Taken f.exchange u
      go (part q j z) =
          let same : f.exchange ≡ q.exchange = ap exchange_in (sym e ∙ ap envelope_in z ∙ part-envelope p.words q (g.stands.parts q j).1) in
          omega (arith, same, ((reach-inv (node p b) g.follows).sent q j).begun, g.stands.server.row.exchange)
      go (answer x y z fx fo wrote) =
          let seven : f.opcode ≡ 7 = ap opcode_in (sym e ∙ ap envelope_in z ∙ answer-envelope x y fx) in
          absurd (omega (arith, seven, o))

pub once : Once
once =
    record {
      taking = λ p b u run exchange k l. one-step p b (Taken p b exchange) (taken-stays p b exchange) none run k.at k.next l.at l.next k.passes l.passes
          (λ h. absurd (omega (arith, h, k.before))) (omega (arith, k.after)) (λ h. absurd (omega (arith, h, l.before))) (omega (arith, l.after));
      making = λ p b u run m k l. one-step p b (λ (x : World). Memᴰ m x.replies) (made-stays p b m) none run k.at k.next l.at l.next k.passes l.passes k.before k.after l.before l.after;
      ending = λ p b u v reach run exchange m m' k l. ending-once p b reach run exchange m m' k l;
      order = λ p b u run m f e o k l. no-later p b (Taken p b f.exchange) (taken-stays p b f.exchange) none run k.at k.next l.at l.next k.passes l.passes
          (λ h. absurd (omega (arith, h, k.before))) (report-taken p b (passes-reach p b none run l.at l.next l.passes).1 m l.after f e o);
    }
