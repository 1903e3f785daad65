-- Small laws on tests and lists, on what a part reports, and on entries that are set.
use mathlib.Core.Path.{◌≡◌, refl, sym, ◌∙◌, ap}
use mathlib.Core.Logic.{◌⊎◌, inl, inr}
use mathlib.Core.Bool.{Bool, true, false, cond, not, ◌&&◌, ◌||◌}
use mathlib.Core.List.Memᴰ
use mathlib.Core.List.{List, [], ◌∷◌, ◌++◌, map, Memᴰ}
use Prim.Native.Nat.{ℕ, zero, suc, ◌+◌, ◌≤◌}
use native.Mathlib.Omega.{arith}
use lib.Dec.{T, T_not, eqb, eqb→eq, eqb_refl}
use lib.ListN.{length}
use Rattle.proof_protocol.specs.Model.{ConcretePath, Entry, update, every, any, select, same_place, reported, remaining, set_entry, set_entries}

-- a goal about a branch, by its two cases, each with its test as a fact
pub by_cond {ℓ κ} : {A : Type ℓ} (P : A → Type κ) (b : Bool) {x y : A} → (T b → P x) → (T (not b) → P y) → P (cond b x y)
by_cond P true f g = f tt
by_cond P false f g = g tt

pub and_l : (a b : Bool) → T (a && b) → T a
and_l true b t = tt
and_l false b t = t

pub and_r : (a b : Bool) → T (a && b) → T b
and_r true b t = t
and_r false b t = absurd t

pub T_true : (b : Bool) → T b → b ≡ true
T_true true t = refl
T_true false t = absurd t

pub T_false : (b : Bool) → T (not b) → b ≡ false
T_false true t = absurd t
T_false false t = refl

-- what holds of each place of f, and of x at c, holds of each place of the update
pub update_all {ℓ κ} : {A : Type ℓ} (P : ℕ → A → Type κ) (f : ℕ → A) (c : ℕ) (x : A) → P c x → ((d : ℕ) → P d (f d)) → (d : ℕ) → P d (update f c x d)
update_all P f c x h k d = by_cond (P d) (eqb d c) (λ t. rw (eqb→eq d c t) h) (λ t. k d)

-- what holds of the head and of each element of the tail holds of each element
pub all_cons {ℓ κ} : {A : Type ℓ} (P : A → Type κ) {x : A} {xs : List A} → P x → ((y : A) → Memᴰ y xs → P y) → (y : A) → Memᴰ y (x ∷ xs) → P y
all_cons P h k y (Memᴰ.head e) = rw e h
all_cons P h k y (Memᴰ.tail m) = k y m

pub all_append {ℓ κ} : {A : Type ℓ} (P : A → Type κ) (xs : List A) {ys : List A} → ((y : A) → Memᴰ y xs → P y) → ((y : A) → Memᴰ y ys → P y) → (y : A) → Memᴰ y (xs ++ ys) → P y
all_append {A} P xs {ys} h k y m = go (Memᴰ.append_cases xs m)
  where
    go : Memᴰ y xs ⊎ Memᴰ y ys → P y
    go (inl p) = h y p
    go (inr p) = k y p

pub all_map {ℓ κ} : {A B : Type ℓ} (P : B → Type κ) (f : A → B) (xs : List A) → ((x : A) → P (f x)) → (y : B) → Memᴰ y (map f xs) → P y
all_map P f [] h y m = absurd (Memᴰ.not-nil m)
all_map P f (x ∷ xs) h y m = all_cons P (h x) (all_map P f xs h) y m

pub bool_cases {ℓ} : {P : Type ℓ} (b : Bool) → (T b → P) → (T (not b) → P) → P
bool_cases true f g = f tt
bool_cases false f g = g tt

pub T_of : (b : Bool) → b ≡ true → T b
T_of b e = rw e tt

pub not-of : (b : Bool) → b ≡ false → T (not b)
not-of b e = rw e tt

pub or-not : (a b : Bool) → T (not a || b) → T a → T b
or-not true b t u = t
or-not false b t u = absurd u

pub every-mem {ℓ} : {A : Type ℓ} (f : A → Bool) (xs : List A) → T (every f xs) → (x : A) → Memᴰ x xs → T (f x)
every-mem f [] t = λ x i. absurd (Memᴰ.not-nil i)
every-mem f (y ∷ ys) t = all_cons (λ x. T (f x)) (and_l (f y) (every f ys) t) (every-mem f ys (and_r (f y) (every f ys) t))

pub any-mem {ℓ} : {A : Type ℓ} (f : A → Bool) (xs : List A) → T (any f xs) → (x : A) × Memᴰ x xs × T (f x)
any-mem f [] t = absurd t
any-mem {A} f (y ∷ ys) t = go (f y) refl t (any-mem f ys)
  where
    go : (b : Bool) → f y ≡ b → T (b || any f ys) → (T (any f ys) → (x : A) × Memᴰ x ys × T (f x)) → (x : A) × Memᴰ x (y ∷ ys) × T (f x)
    go true e t r = (y, Memᴰ.head refl, rw e tt)
    go false e t r = let q = r t in (q.0, Memᴰ.tail q.1, q.2)

not-or : (a b : Bool) → T (not (a || b)) → T (not a) × T (not b)
not-or true b t = absurd t
not-or false b t = (tt, t)

pub not-not : (a : Bool) → T (not (not a)) → T a
not-not true t = tt
not-not false t = t

pub none-mem {ℓ} : {A : Type ℓ} (f : A → Bool) (xs : List A) → T (not (any f xs)) → (x : A) → Memᴰ x xs → T (not (f x))
none-mem f [] t = λ x i. absurd (Memᴰ.not-nil i)
none-mem f (y ∷ ys) t = all_cons (λ x. T (not (f x))) (not-or (f y) (any f ys) t).0 (none-mem f ys (not-or (f y) (any f ys) t).1)

-- what a part reports and leaves ahead
module _ (skip : ConcretePath → Bool) where
  pub reported-in : (n : ℕ) (l : List ConcretePath) (w : ConcretePath) → Memᴰ w (reported skip n l) → Memᴰ w l
  unfolding reported
  reported-in n [] w i = i
  reported-in zero (v ∷ ws) w i = bool_cases (skip v) (λ t. Memᴰ.tail (reported-in zero ws w (rw (T_true (skip v) t) at i))) (λ t. one (rw (T_false (skip v) t) at i))
    where
      one : Memᴰ w (v ∷ []) → Memᴰ w (v ∷ ws)
      one (Memᴰ.head e) = Memᴰ.head e
      one (Memᴰ.tail j) = absurd (Memᴰ.not-nil j)
  reported-in (suc n) (v ∷ ws) w i = bool_cases (skip v) (λ t. Memᴰ.tail (reported-in (suc n) ws w (rw (T_true (skip v) t) at i))) (λ t. go (reported-in n ws w) (rw (T_false (skip v) t) at i))
    where
      go : (Memᴰ w (reported skip n ws) → Memᴰ w ws) → Memᴰ w (v ∷ reported skip n ws) → Memᴰ w (v ∷ ws)
      go r (Memᴰ.head e) = Memᴰ.head e
      go r (Memᴰ.tail j) = Memᴰ.tail (r j)

  pub remaining-in : (n : ℕ) (l : List ConcretePath) (w : ConcretePath) → Memᴰ w (remaining skip n l) → Memᴰ w l
  unfolding remaining
  remaining-in n [] w i = i
  remaining-in zero (v ∷ ws) w i = bool_cases (skip v) (λ t. Memᴰ.tail (remaining-in zero ws w (rw (T_true (skip v) t) at i))) (λ t. Memᴰ.tail (rw (T_false (skip v) t) at i))
  remaining-in (suc n) (v ∷ ws) w i = bool_cases (skip v) (λ t. Memᴰ.tail (remaining-in (suc n) ws w (rw (T_true (skip v) t) at i))) (λ t. Memᴰ.tail (remaining-in n ws w (rw (T_false (skip v) t) at i)))

  pub remaining-short : (n : ℕ) (w : ConcretePath) (ws : List ConcretePath) → length (remaining skip n (w ∷ ws)) ≤ length ws
  unfolding remaining
  remaining-short zero w [] = by_cond (λ (l : List ConcretePath). length l ≤ 0) (skip w) (λ t. omega arith) (λ t. omega arith)
  remaining-short (suc n) w [] = by_cond (λ (l : List ConcretePath). length l ≤ 0) (skip w) (λ t. omega arith) (λ t. omega arith)
  remaining-short zero w (v ∷ ws) = by_cond (λ (l : List ConcretePath). length l ≤ suc (length ws)) (skip w) (λ t. omega (arith, remaining-short zero v ws)) (λ t. omega arith)
  remaining-short (suc n) w (v ∷ ws) = by_cond (λ (l : List ConcretePath). length l ≤ suc (length ws)) (skip w) (λ t. omega (arith, remaining-short (suc n) v ws)) (λ t. omega (arith, remaining-short n v ws))

  pub data Judgement (n : ℕ) (l : List ConcretePath) (w : ConcretePath) : Type 0 where
    went : Memᴰ w (reported skip n l) → Judgement n l w
    stays : Memᴰ w (remaining skip n l) → Judgement n l w
    skipped : T (skip w) → Judgement n l w

  pub judgement : (n : ℕ) (l : List ConcretePath) (w : ConcretePath) → Memᴰ w l → Judgement n l w
  unfolding reported remaining
  judgement n [] w i = absurd (Memᴰ.not-nil i)
  judgement zero (v ∷ ws) w (Memᴰ.head e) =
      bool_cases (skip v) (λ t. skipped (rw e t)) (λ t. went (rw (T_false (skip v) t) (Memᴰ.head e)))
  judgement zero (v ∷ ws) w (Memᴰ.tail i) =
      bool_cases (skip v) (λ t. go (T_true (skip v) t) (judgement zero ws w i)) (λ t. stays (rw (T_false (skip v) t) i))
    where
      go : skip v ≡ true → Judgement zero ws w → Judgement zero (v ∷ ws) w
      go e (went j) = went (rw e j)
      go e (stays j) = stays (rw e j)
      go e (skipped t) = skipped t
  judgement (suc n) (v ∷ ws) w (Memᴰ.head e) =
      bool_cases (skip v) (λ t. skipped (rw e t)) (λ t. went (rw (T_false (skip v) t) (Memᴰ.head e)))
  judgement (suc n) (v ∷ ws) w (Memᴰ.tail i) =
      bool_cases (skip v) (λ t. go (T_true (skip v) t) (judgement (suc n) ws w i)) (λ t. on (T_false (skip v) t) (judgement n ws w i))
    where
      go : skip v ≡ true → Judgement (suc n) ws w → Judgement (suc n) (v ∷ ws) w
      go e (went j) = went (rw e j)
      go e (stays j) = stays (rw e j)
      go e (skipped t) = skipped t

      on : skip v ≡ false → Judgement n ws w → Judgement (suc n) (v ∷ ws) w
      on e (went j) = went (rw e (Memᴰ.tail j))
      on e (stays j) = stays (rw e j)
      on e (skipped t) = skipped t

same-eq : (v w : ConcretePath) → T (same_place v w) → v ≡ w
same-eq v w t = λ i. record { cluster = eqb→eq v.cluster w.cluster (and_l (eqb v.cluster w.cluster) (eqb v.attribute w.attribute) t) i; attribute = eqb→eq v.attribute w.attribute (and_r (eqb v.cluster w.cluster) (eqb v.attribute w.attribute) t) i }

pub same_refl : (v w : ConcretePath) → v ≡ w → T (same_place v w)
same_refl v w e = rw e (both (eqb w.cluster w.cluster) (eqb w.attribute w.attribute) (eqb_refl w.cluster) (eqb_refl w.attribute))
  where
    both : (a b : Bool) → T a → T b → T (a && b)
    both true b s t = t
    both false b s t = absurd s

pub select-mem {ℓ} : {A : Type ℓ} (f : A → Bool) (l : List A) (x : A) → Memᴰ x l → T (f x) → Memᴰ x (select f l)
select-mem f [] x i t = i
select-mem f (y ∷ l) x (Memᴰ.head e) t = rw (T_true (f y) (rw e at t)) (Memᴰ.head e)
select-mem f (y ∷ l) x (Memᴰ.tail i) t = by_cond (λ q. Memᴰ x q) (f y) (λ u. Memᴰ.tail (select-mem f l x i t)) (λ u. select-mem f l x i t)

pub mem-select {ℓ} : {A : Type ℓ} (f : A → Bool) (l : List A) (x : A) → Memᴰ x (select f l) → Memᴰ x l × T (f x)
mem-select f [] x i = absurd (Memᴰ.not-nil i)
mem-select f (y ∷ l) x i = bool_cases (f y) (λ t. go (mem-select f l x) t (rw (T_true (f y) t) at i)) (λ t. let r = mem-select f l x (rw (T_false (f y) t) at i) in (Memᴰ.tail r.0, r.1))
  where
    go : (Memᴰ x (select f l) → Memᴰ x l × T (f x)) → T (f y) → Memᴰ x (y ∷ select f l) → Memᴰ x (y ∷ l) × T (f x)
    go q t (Memᴰ.head e) = (Memᴰ.head e, rw e t)
    go q t (Memᴰ.tail j) = let r = q j in (Memᴰ.tail r.0, r.1)

module _ {Value : Type 0} where
  -- entries as a map
  abbrev pub Has : ConcretePath → List (Entry Value) → Type 0
  Has w l = (e : Entry Value) × Memᴰ e l × (e.place ≡ w)

  -- an entry of the cache after a part is the part's, or stood there and the part has none for its place
  pub data Origin (es l : List (Entry Value)) (e : Entry Value) : Type 0 where
    given : Memᴰ e es → Origin es l e
    stood : Memᴰ e l → (Has e.place es → ⊥) → Origin es l e

  pub origin : (es l : List (Entry Value)) (e : Entry Value) → Memᴰ e (set_entries es l) → Origin es l e
  unfolding set_entries set_entry
  origin [] l e i = stood i (λ h. Memᴰ.not-nil h.1)
  origin (d ∷ es) l e i = go (origin es (set_entry d l) e i)
    where
      up : Memᴰ e (d ∷ select (λ (a : Entry Value). not (same_place a.place d.place)) l) → (Has e.place es → ⊥) → Origin (d ∷ es) l e
      up (Memᴰ.head q) h = given (Memᴰ.head q)
      up (Memᴰ.tail j) h =
          let r = mem-select (λ (a : Entry Value). not (same_place a.place d.place)) l e j in
          stood r.0 (λ k. both r.1 k.0 k.1 k.2)
        where
          both : T (not (same_place e.place d.place)) → (a : Entry Value) → Memᴰ a (d ∷ es) → a.place ≡ e.place → ⊥
          both n a (Memᴰ.head q) p = T_not (same_place e.place d.place) n (same_refl e.place d.place (sym p ∙ ap (λ (z : Entry Value). z.place) q))
          both n a (Memᴰ.tail k) p = h (a, k, p)

      go : Origin es (set_entry d l) e → Origin (d ∷ es) l e
      go (given j) = given (Memᴰ.tail j)
      go (stood j h) = up j h

  one_has : (d : Entry Value) (l : List (Entry Value)) (w : ConcretePath) → Has w l → Has w (set_entry d l)
  unfolding set_entry
  one_has d l w (h) = bool_cases (same_place h.0.place d.place)
      (λ t. (d, Memᴰ.head refl, sym (same-eq h.0.place d.place t) ∙ h.2))
      (λ t. (h.0, Memᴰ.tail (select-mem (λ (a : Entry Value). not (same_place a.place d.place)) l h.0 h.1 t), h.2))

  pub set_keeps : (es l : List (Entry Value)) (w : ConcretePath) → Has w l → Has w (set_entries es l)
  unfolding set_entries
  set_keeps [] l w h = h
  set_keeps (d ∷ es) l w h = set_keeps es (set_entry d l) w (one_has d l w h)

  pub set-has : (es l : List (Entry Value)) (w : ConcretePath) → Has w es → Has w (set_entries es l)
  unfolding set_entries set_entry
  set-has [] l w h = absurd (Memᴰ.not-nil h.1)
  set-has (d ∷ es) l w h = go (set-has es (set_entry d l) w) h.1
    where
      go : (Has w es → Has w (set_entries es (set_entry d l))) → Memᴰ h.0 (d ∷ es) → Has w (set_entries es (set_entry d l))
      go r (Memᴰ.head q) = set_keeps es (set_entry d l) w (d, Memᴰ.head refl, ap (λ (z : Entry Value). z.place) (sym q) ∙ h.2)
      go r (Memᴰ.tail j) = r (h.0, j, h.2)

  pub set_all {κ} : (P : Entry Value → Type κ) (es l : List (Entry Value)) → ((e : Entry Value) → Memᴰ e es → P e) → ((e : Entry Value) → Memᴰ e l → P e) → (e : Entry Value) → Memᴰ e (set_entries es l) → P e
  set_all P es l h k e i = go (origin es l e i)
    where
      go : Origin es l e → P e
      go (given j) = h e j
      go (stood j n) = k e j
