-- A part is made once: two parts of one exchange and one turn are the same part. And it stays. A request is taken in one step of a run, and a part made in one.
use mathlib.Core.Path.{◌≡◌, refl, sym, ◌∙◌, ap, subst}
use mathlib.Core.Logic.{◌⊎◌, inl, inr}
use mathlib.Core.Bool.{true, false, true≢false}
use mathlib.Core.List.Memᴰ
use mathlib.Core.List.{List, [], ◌∷◌, ◌++◌, Memᴰ}
use Prim.Native.Nat.{ℕ, ◌≤◌, ◌<◌}
use native.Mathlib.Omega.{arith}
use Rattle.proof_protocol.specs.Model.{Node, Part, System, part_of, send, send_again, close, written, store_all, begin_read, begin_write, accept, awaited, receive}
use Rattle.proof_protocol.specs.Steps.{Step, alters, begins_read, begins_write, serves, receives, Run, none, then, Reach, join, Passes, step_count, index_of, Same, NoneBegun}
use Rattle.proof_protocol.specs.Claims.{Taking, Making, Ending}
use Rattle.proof_protocol.proofs.SmallLaws.{by_cond, all_append}
use Rattle.proof_protocol.proofs.Invariant.{Inv}
use Rattle.proof_protocol.proofs.ChangeLaws.{More}
use Rattle.proof_protocol.proofs.CacheLaws.{awaited-is, last_taken}
use Rattle.proof_protocol.proofs.Inductive.{reach-inv}
use Rattle.proof_protocol.proofs.OpenLaws.{Served, served, begin, next, again, storing, shuts, silent}

module _ {Value : Type 0} where
  abbrev Once : List (Part Value) → Type 0
  Once l = (m m' : Part Value) → Memᴰ m l → Memᴰ m' l → m.exchange ≡ m'.exchange → m.turn ≡ m'.turn → m ≡ m'

  once_more : (p : Part Value) (l : List (Part Value)) → ((m : Part Value) → Memᴰ m l → m.exchange ≡ p.exchange → m.turn ≡ p.turn → ⊥) → Once l → Once (p ∷ l)
  once_more p l new h m m' (Memᴰ.head e) (Memᴰ.head f) x t = e ∙ sym f
  once_more p l new h m m' (Memᴰ.head e) (Memᴰ.tail j) x t =
      absurd (new m' j (sym x ∙ ap (λ (q : Part Value). q.exchange) e) (sym t ∙ ap (λ (q : Part Value). q.turn) e))
  once_more p l new h m m' (Memᴰ.tail i) (Memᴰ.head f) x t =
      absurd (new m i (x ∙ ap (λ (q : Part Value). q.exchange) f) (t ∙ ap (λ (q : Part Value). q.turn) f))
  once_more p l new h m m' (Memᴰ.tail i) (Memᴰ.tail j) x t = h m m' i j x t

  once-served : (node : Node Value) {s t : System Value} → Inv node s → Served node s t → Once s.parts → Once t.parts
  unfolding send part_of send_again written store_all close
  once-served node {s} h (begin x filters n l i) o = once_more _ s.parts (λ m j e _. omega (arith, (h.sent m j).begun, l, e)) o
  once-served node {s} h (next x n e i g) o =
      once_more _ s.parts (λ m j q t. omega (arith, (h.sent m j).before (q ∙ e), t)) o
  once-served node {s} h again o = λ m m' i j.
      let old : (q : Part Value) → Memᴰ q (s.row.kept ++ s.parts) → Memᴰ q s.parts =
      all_append (λ (q : Part Value). Memᴰ q s.parts) s.row.kept h.row.kept (λ q k. k) in
      o m m' (old m i) (old m' j)
  once-served node {s} h (storing x stores l i) o = o
  once-served node h (shuts x t i) o = o
  once-served node h silent o = o

  once-step : (node : Node Value) {s t : System Value} → Inv node s → Step node s t → Once s.parts → Once t.parts
  unfolding store_all begin_read begin_write receive accept
  once-step node h (alters stores) o = o
  once-step node h (begins_read filters f) o = o
  once-step node h begins_write o = o
  once-step node {s} h (serves m n stores i) o = once-served node h (served node s m n stores i) o
  once-step node {s} h (receives m i) o = by_cond (λ (t : System Value). Once t.parts) (awaited s.cache m) (λ _. o) (λ _. o)

  pub part-once : (node : Node Value) {s : System Value} → Reach node s → Once s.parts
  part-once node none = λ m m' i. absurd (Memᴰ.not-nil i)
  part-once node (then run p) = once-step node (reach-inv node run) p (part-once node run)

  -- AND STAYS: a part that was sent is there ever after
  served-more : (node : Node Value) {s t : System Value} → Served node s t → More s.parts t.parts
  unfolding send send_again written store_all close
  served-more node (begin x filters n l i) = λ m j. Memᴰ.tail j
  served-more node (next x n e i g) = λ m j. Memᴰ.tail j
  served-more node {s} again = λ m j. later s.row.kept j
    where
      later : {m : Part Value} (a : List (Part Value)) {l : List (Part Value)} → Memᴰ m l → Memᴰ m (a ++ l)
      later [] j = j
      later (y ∷ a) j = Memᴰ.tail (later a j)
  served-more node {s} (storing x stores l i) = λ m j. j
  served-more node (shuts x t i) = λ m j. j
  served-more node silent = λ m j. j

  step-more : (node : Node Value) {s t : System Value} → Step node s t → More s.parts t.parts
  unfolding store_all begin_read begin_write receive accept
  step-more node (alters stores) = λ m j. j
  step-more node (begins_read filters f) = λ m j. j
  step-more node begins_write = λ m j. j
  step-more node {s} (serves m n stores i) = served-more node (served node s m n stores i)
  step-more node {s} (receives m i) = by_cond (λ (t : System Value). More s.parts t.parts) (awaited s.cache m) (λ _ _ j. j) (λ _ _ j. j)

  pub passes-more : (node : Node Value) {s t : System Value} (run : Run node s t) (u w : System Value) → Passes run u w → More u.parts w.parts
  passes-more node none u w x = absurd x
  passes-more node {s} {t} (then {t = t'} run p) u w x = go (passes-more node run u w) x
    where
      go : (Passes run u w → More u.parts w.parts) → Passes run u w ⊎ ((u ≡ t') × (w ≡ t)) → More u.parts w.parts
      go f (inl k) = f k
      go f (inr k) = λ m i. subst (λ (z : System Value). Memᴰ m z.parts) (sym k.1) (step-more node p m (subst (λ (z : System Value). Memᴰ m z.parts) k.0 i))

  pub passes-reach : (node : Node Value) {t : System Value} (run : Reach node t) (u w : System Value) → Passes run u w → Reach node w
  passes-reach node none u w x = absurd x
  passes-reach node {t} (then {t = t'} run p) u w x = go (λ k. passes-reach node run u w k) x
    where
      go : (Passes run u w → Reach node w) → Passes run u w ⊎ ((u ≡ t') × (w ≡ t)) → Reach node w
      go f (inl k) = f k
      go f (inr k) = subst (Reach node) (sym k.1) (then run p)

  index_in_lem : (node : Node Value) {s t : System Value} (run : Run node s t) (u w : System Value) (x : Passes run u w) → index_of run u w x < step_count run
  index_in_lem node none u w x = absurd x
  index_in_lem node (then run p) u w (inl x) = omega (arith, index_in_lem node run u w x)
  index_in_lem node (then run p) u w (inr x) = omega arith

  -- ONE STEP: what is false before a step, true after it and stays so becomes true in one step of a run
  module _ (node : Node Value) (P : System Value → Type 0) (on : (s t : System Value) → Step node s t → P s → P t) where
    from_then : {s t : System Value} (run : Run node s t) (u w : System Value) → Passes run u w → P w → P t
    from_then none u w x h = absurd x
    from_then {s} {t} (then {t = t'} run p) u w x h = go (λ k. from_then run u w k h) x
      where
        go : (Passes run u w → P t') → Passes run u w ⊎ ((u ≡ t') × (w ≡ t)) → P t
        go f (inl k) = on t' t p (f k)
        go f (inr k) = subst P k.1 h

    one-step : {s t : System Value} (run : Run node s t) (u w u' w' : System Value) (a : Passes run u w) (b : Passes run u' w') → (P u → ⊥) → P w → (P u' → ⊥) → P w'
        → Same run u w u' w' a b
    one-step none u w u' w' a b n h n' h' = absurd a
    one-step {s} {t} (then {t = t'} run p) u w u' w' (inl a) (inl b) n h n' h' = let k = one-step run u w u' w' a b n h n' h' in record { index = k.index; from = k.from; to = k.to }
    one-step {s} {t} (then {t = t'} run p) u w u' w' (inl a) (inr b) n h n' h' = absurd (n' (subst P (sym b.0) (from_then run u w a h)))
    one-step {s} {t} (then {t = t'} run p) u w u' w' (inr a) (inl b) n h n' h' = absurd (n (subst P (sym a.0) (from_then run u' w' b h')))
    one-step {s} {t} (then {t = t'} run p) u w u' w' (inr a) (inr b) n h n' h' = record { index = refl; from = a.0 ∙ sym b.0; to = a.1 ∙ sym b.1 }

    -- and no later than in a step after which it is true
    no-later : {s t : System Value} (run : Run node s t) (u w u' w' : System Value) (a : Passes run u w) (b : Passes run u' w') → (P u → ⊥) → P w' → index_of run u w a ≤ index_of run u' w' b
    no-later none u w u' w' a b n h = absurd a
    no-later (then run p) u w u' w' (inl a) (inl b) n h = no-later run u w u' w' a b n h
    no-later (then run p) u w u' w' (inl a) (inr b) n h = omega (arith, index_in_lem node run u w a)
    no-later (then run p) u w u' w' (inr a) (inl b) n h = absurd (n (subst P (sym a.0) (from_then run u' w' b h)))
    no-later (then run p) u w u' w' (inr a) (inr b) n h = omega arith

  served-rises : (node : Node Value) {s t : System Value} → Served node s t → s.row.exchange ≤ t.row.exchange
  unfolding send part_of send_again written store_all close
  served-rises node (begin x filters n l i) = omega arith
  served-rises node (next x n e i g) = omega arith
  served-rises node again = omega arith
  served-rises node (storing x stores l i) = omega arith
  served-rises node (shuts x t i) = omega arith
  served-rises node silent = omega arith

  pub step-rises : (node : Node Value) {s t : System Value} → Step node s t → s.row.exchange ≤ t.row.exchange
  unfolding store_all begin_read begin_write receive accept
  step-rises node (alters stores) = omega arith
  step-rises node (begins_read filters f) = omega arith
  step-rises node begins_write = omega arith
  step-rises node {s} (serves m n stores i) = served-rises node (served node s m n stores i)
  step-rises node {s} (receives m i) = by_cond (λ (t : System Value). s.row.exchange ≤ t.row.exchange) (awaited s.cache m) (λ _. omega arith) (λ _. omega arith)

  pub taking-once : (node : Node Value) {s t : System Value} (run : Run node s t) (x : ℕ) (k l : Taking run x) → Same run k.at k.next l.at l.next k.passes l.passes
  taking-once node run x k l =
      one-step node (λ (z : System Value). x ≤ z.row.exchange) (λ s t p h. omega (arith, step-rises node p)) run k.at k.next l.at l.next k.passes l.passes
      (λ h. absurd (omega (arith, k.before))) (omega (arith, k.after)) (λ h. absurd (omega (arith, l.before))) (omega (arith, l.after))

  pub making-once : (node : Node Value) {s t : System Value} (run : Run node s t) (m : Part Value) (k l : Making run m) → Same run k.at k.next l.at l.next k.passes l.passes
  making-once node run m k l =
      one-step node (λ (z : System Value). Memᴰ m z.parts) (λ s t p h. step-more node p m h) run k.at k.next l.at l.next k.passes l.passes k.before k.after l.before l.after

  pub taking-first : (node : Node Value) {s : System Value} (run : Reach node s) (m : Part Value) (k : Taking run m.exchange) (l : Making run m)
      → index_of run k.at k.next k.passes ≤ index_of run l.at l.next l.passes
  taking-first node run m k l =
      no-later node (λ (z : System Value). m.exchange ≤ z.row.exchange) (λ s t p h. omega (arith, step-rises node p)) run k.at k.next l.at l.next k.passes l.passes
      (λ h. absurd (omega (arith, k.before))) ((reach-inv node (passes-reach node run l.at l.next l.passes)).sent m l.after).begun

  -- an exchange of the cache is over, and stays so
  abbrev pub Over : ℕ → System Value → Type 0
  Over x s = (x < s.cache.exchange) ⊎ ((s.cache.exchange ≡ x) × (s.cache.reading ≡ false))

  served-cache : (node : Node Value) {s t : System Value} → Served node s t → t.cache ≡ s.cache
  unfolding send send_again written store_all close
  served-cache node (begin x filters n l i) = refl
  served-cache node (next x n e i g) = refl
  served-cache node again = refl
  served-cache node (storing x stores l i) = refl
  served-cache node (shuts x t i) = refl
  served-cache node silent = refl

  receive-over : (s : System Value) (m : Part Value) (x : ℕ) → Over x s → Over x (receive s m)
  unfolding receive accept
  receive-over s m x (inl l) = by_cond (Over x) (awaited s.cache m) (λ _. inl l) (λ _. inl l)
  receive-over s m x (inr k) = by_cond (Over x) (awaited s.cache m) (λ t. absurd (true≢false (sym (awaited-is s.cache m t).2 ∙ k.1))) (λ _. inr k)

  pub step-over : (node : Node Value) {s t : System Value} → Step node s t → (x : ℕ) → Over x s → Over x t
  unfolding store_all begin_read begin_write
  step-over node (alters stores) x h = h
  step-over node (begins_read filters f) x (inl l) = inl (omega (arith, l))
  step-over node (begins_read filters f) x (inr k) = inl (omega (arith, k.0))
  step-over node begins_write x (inl l) = inl (omega (arith, l))
  step-over node begins_write x (inr k) = inl (omega (arith, k.0))
  step-over node {s} (serves m n stores i) x h = rw (served-cache node (served node s m n stores i)) h
  step-over node {s} (receives m i) x h = receive-over s m x h

  ending-open : (node : Node Value) {s t : System Value} (run : Run node s t) (k : Ending run) → Over s.cache.exchange k.at → ⊥
  ending-open node {s} run k (inl l) = absurd (omega (arith, l, k.own, (awaited-is k.at.cache k.part k.wanted).0))
  ending-open node {s} run k (inr r) = true≢false (sym (awaited-is k.at.cache k.part k.wanted).2 ∙ r.1)

  ending-over : (node : Node Value) {s t : System Value} (run : Run node s t) (k : Ending run) → Over s.cache.exchange k.next
  ending-over node {s} run k =
      let (shut, same) = last_taken k.at k.part k.wanted k.last in
      subst (Over s.cache.exchange) (sym k.taken) (inr (same ∙ k.own, shut))

  pub ending-once : (node : Node Value) {s t : System Value} (run : Run node s t) (k l : Ending run) → Same run k.at k.next l.at l.next k.passes l.passes
  ending-once node {s} run k l =
      one-step node (Over s.cache.exchange) (λ s' t' p h. step-over node p s.cache.exchange h) run k.at k.next l.at l.next k.passes l.passes
      (ending-open node run k) (ending-over node run k) (ending-open node run l) (ending-over node run l)

  -- ONE RUN AFTER ANOTHER
  pub join-on : (node : Node Value) {s t u v : System Value} (a : Run node s t) (b : Run node t u) (c : Run node u v) → join a (join b c) ≡ join (join a b) c
  join-on node a b none = refl
  join-on node a b (then c p) = ap (λ r. then r p) (join-on node a b c)

  pub passes_on : (node : Node Value) {s t u : System Value} (a : Run node s t) (b : Run node t u) (x y : System Value) → Passes a x y → Passes (join a b) x y
  passes_on node a none x y k = k
  passes_on node a (then b p) x y k = inl (passes_on node a b x y k)

  pub none-begun-rest : (node : Node Value) {s t u : System Value} (a : Run node s t) (b : Run node t u) → NoneBegun (join a b) → NoneBegun b
  none-begun-rest node a none c = tt
  none-begun-rest node a (then b p) c = (none-begun-rest node a b c.0, c.1)

  -- a run up to one of its steps, the step, and the rest
  pub record Cut (node : Node Value) {s t : System Value} (run : Run node s t) (u w : System Value) : Type 0 where
    pub before : Run node s u
    pub step : Step node u w
    pub rest : Run node w t
    pub whole : run ≡ join (then before step) rest

  pub cut : (node : Node Value) {s t : System Value} (run : Run node s t) (u w : System Value) → Passes run u w → Cut node run u w
  cut node none u w x = absurd x
  cut node {s} {t} (then {t = t'} run p) u w (inl x) =
      let k : Cut node run u w = cut node run u w x in
      record { before = k.before; step = k.step; rest = then k.rest p; whole = ap (λ (r : Run node s t'). then r p) k.whole }
  cut node {s} {t} (then {t = t'} run p) u w (inr x) =
      subst (λ (y : System Value). Cut node (then run p) y w) (sym x.0)
      (subst (λ (y : System Value). Cut node (then run p) t' y) (sym x.1) (record { before = run; step = p; rest = none; whole = refl }))
