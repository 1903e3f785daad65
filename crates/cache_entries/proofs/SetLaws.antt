-- A word put in a row of different words is found there, and every other where it was.
use Rattle.std.specs.Prelude.{Some, None, Option}
use mathlib.Core.Path.{◌≡◌, refl, sym, ap, ◌∙◌}
use mathlib.Core.Bool.{Bool, true, false}
use mathlib.Core.List.{List}
use Prim.Native.Nat.{ℕ, zero, suc, ◌+◌, ◌≤◌, ◌<◌}
use native.Mathlib.Omega.{arith}
use borrow.Author.Tests.{eq-eqb, ne_eqb, eqb-true, ltb-true, ltb-false, lt-ltb, le-ltb}
use lib.Dec.{eqb, ltb}
use lib.ListN.{length, get_or, set}
use lib.Seq.{get_or-set_same, get_or-set_other, set-get_or}
use Rattle.node_schema.specs.Search.{first}
use Rattle.node_schema.proofs.SearchLaws.{found}
use Rattle.node_schema.proofs.BoolLaws.{by-test}
use Rattle.cache_order.specs.Order.{word_at}
use Rattle.cache_entries.specs.Set.{place_for, count_with}

never : {A : Type 0} → ◌≡◌ {A = ℕ} 0 1 → A
never e = absurd (omega arith)

-- a search sees only the places that it looks at
pub first-agree : (p q : ℕ → Bool) (n k : ℕ) → ((j : ℕ) → k ≤ j → j < n + k → p j ≡ q j) → first p n k ≡ first q n k
unfolding first
first-agree p q zero k h = refl
first-agree p q (suc n) k h =
    rw (h k (omega arith) (omega arith), first-agree p q n (k + 1) (λ j a b. h j (omega arith) (omega arith))) refl

-- one place more, where the test fails, and where it holds and nothing was found before
first_more : (p : ℕ → Bool) (n k : ℕ) → p (n + k) ≡ false → first p (suc n) k ≡ first p n k
unfolding first
first_more p zero k h = let e : k ≡ 0 + k = omega arith in rw (ap p e ∙ h) refl
first_more p (suc n) k h =
    let e : n + (k + 1) ≡ suc n + k = omega arith in
    rw (first_more p n (k + 1) (ap p e ∙ h)) refl

first-last : (p : ℕ → Bool) (n k : ℕ) → first p n k ≡ None → p (n + k) ≡ true → first p (suc n) k ≡ Some (n + k)
unfolding first
first-last p zero k e h = let q : k ≡ 0 + k = omega arith in rw (ap p q ∙ h) (ap Some q)
first-last p (suc n) k e h = by-test (p k) (λ t. never (let z : Some k ≡ None = rw t at e in cc))
    (λ f. let q : n + (k + 1) ≡ suc n + k = omega arith in rw f (first-last p n (k + 1) (rw f at e) (ap p q ∙ h) ∙ ap Some q))

-- a word that is found stands there
pub word_stands : (l : List ℕ) (n x i : ℕ) → word_at l n x ≡ Some i → (i < n) × (get_or l i 0 ≡ x)
unfolding word_at
word_stands l n x i e = let h = found (λ j. eqb (get_or l j 0) x) n 0 i e in (omega (arith, h.below), eqb-true _ _ h.holds)

-- where a word goes: it stands there and nothing changes, or it is new and comes after the last
pub data Put (l : List ℕ) (n limit x i : ℕ) : Type 0 where
  old : word_at l n x ≡ Some i → i < n → set l i x ≡ l → count_with n i ≡ n → Put l n limit x i
  new : word_at l n x ≡ None → i ≡ n → n < limit → count_with n i ≡ suc n → Put l n limit x i

pub put : (l : List ℕ) (n limit x i : ℕ) → place_for n limit (word_at l n x) ≡ Some i → Put l n limit x i
put l n limit x i at = go (word_at l n x) refl at
  where
    stands : word_at l n x ≡ Some i → Put l n limit x i
    stands e =
        let (low, here) = word_stands l n x i e in
        old e low (ap (set l i) (sym here) ∙ set-get_or l i 0) (rw (lt-ltb i n low) refl)

    go : (f : (Option ℕ)) → word_at l n x ≡ f → place_for n limit f ≡ Some i → Put l n limit x i
    go (Some j) e q = let s : j ≡ i = cc in stands (e ∙ ap Some s)
    go None e q = by-test (ltb n limit)
        (λ t. let z : Some n ≡ Some i = rw t at q in
        let s : i ≡ n = cc in
        new e s (ltb-true n limit t) (rw (le-ltb i n (omega (arith, s))) (omega (arith, s))))
        (λ f. never (let z : None ≡ Some i = rw f at q in cc))

-- a word put where it goes: it is found there, and every other word where it was
module _ (l : List ℕ) (n limit x i : ℕ) (room : limit ≤ length l) (at : place_for n limit (word_at l n x) ≡ Some i) where
  here : i ≡ n → n < limit → get_or (set l i x) (n + 0) 0 ≡ x
  here e u = ap (λ (k : ℕ). get_or (set l i x) k 0) (omega (arith, e)) ∙ get_or-set_same l i x 0 (omega (arith, e, u))

  before : i ≡ n → (y : ℕ) → first (λ j. eqb (get_or (set l i x) j 0) y) n 0 ≡ first (λ j. eqb (get_or l j 0) y) n 0
  before e y = first-agree (λ j. eqb (get_or (set l i x) j 0) y) (λ j. eqb (get_or l j 0) y) n 0 (λ j a b. ap (λ (w : ℕ). eqb w y) (get_or-set_other l i j x 0 (λ z. omega (arith, e, z))))

  -- a word other than x is found where it was
  pub others-found : (y : ℕ) → (y ≡ x → ⊥) → word_at (set l i x) (count_with n i) y ≡ word_at l n y
  unfolding word_at
  others-found y apart = go (put l n limit x i at)
    where
      go : Put l n limit x i → word_at (set l i x) (count_with n i) y ≡ word_at l n y
      go (old e u same count) = rw (same, count) refl
      go (new e s u count) =
          rw count (first_more (λ j. eqb (get_or (set l i x) j 0) y) n 0 (ne_eqb _ _ (λ z. apart (sym (sym (here s u) ∙ z)))) ∙ before s y)

  -- and x is found there
  pub word-found : word_at (set l i x) (count_with n i) x ≡ Some i
  unfolding word_at
  word-found = go (put l n limit x i at)
    where
      go : Put l n limit x i → word_at (set l i x) (count_with n i) x ≡ Some i
      go (old e u same count) = rw (same, count) e
      go (new e s u count) =
          rw count (first-last (λ j. eqb (get_or (set l i x) j 0) x) n 0 (before s x ∙ e) (eq-eqb _ _ (here s u)) ∙ ap Some (omega (arith, s)))

-- a place that is given is within the limit
pub placed_below : (l : List ℕ) (n limit x i : ℕ) → n ≤ limit → place_for n limit (word_at l n x) ≡ Some i → i < limit
placed_below l n limit x i room at = go (put l n limit x i at)
  where
    go : Put l n limit x i → i < limit
    go (old e u same count) = omega arith
    go (new e s u count) = omega arith

-- and at most just after the last
pub placed-next : (l : List ℕ) (n limit x i : ℕ) → place_for n limit (word_at l n x) ≡ Some i → i ≤ n
placed-next l n limit x i at = go (put l n limit x i at)
  where
    go : Put l n limit x i → i ≤ n
    go (old e u same count) = omega arith
    go (new e s u count) = omega arith

-- a count that grows by one place at most
pub counted-here : (count i : ℕ) → i < count_with count i
counted-here count i = by-test (ltb i count) (λ t. rw t (ltb-true i count t)) (λ f. rw f (omega arith))

pub counted-more : (count i : ℕ) → i ≤ count → count ≤ count_with count i
counted-more count i l = by-test (ltb i count) (λ t. rw t (omega arith)) (λ f. rw f (omega (arith, l, ltb-false i count f)))

pub counted-other : (count i j : ℕ) → i ≤ count → (j ≡ i → ⊥) → j < count_with count i → j < count
counted-other count i j l apart h = by-test (ltb i count) (λ t. rw t at h) (λ f. let q : j < i + 1 = rw f at h in omega (arith, l, apart, q))

-- and stays within the limit
pub counted-within : (count limit i : ℕ) → count ≤ limit → i < limit → count_with count i ≤ limit
counted-within count limit i h l = by-test (ltb i count) (λ t. rw t h) (λ f. rw f (omega arith))
