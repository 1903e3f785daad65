-- What holds of the rows of a list, by index.
use Rattle.std.proofs.Common.{◌≡◌, ℕ, zero, suc, ◌+◌, ◌-◌, ◌<◌, ◌≤◌, eqb, List, [], ◌∷◌, ◌++◌, map, length, get_or, set, replicate, sym, refl, ap, ◌∙◌, subst, add-one, arith, eqb-true}
use borrow.Author.Tests.{eqb-false}
use lib.ListN.{get_or-append}
use lib.Seq.{set_at, append_snoc}
use Rattle.node_schema.specs.Rows.{rows_from, filled}
use Rattle.node_schema.specs.Rules.{Each, Rising}
use Rattle.node_schema.proofs.BoolLaws.{by-test}

module _ {A : Type 0} (f : ℕ → A) where
  pub rows-length : (n k : ℕ) → length (rows_from f n k) ≡ n
  unfolding rows_from
  rows-length zero k = refl
  rows-length (suc n) k = ap suc (rows-length n (suc k))

  pub rows_get : (n k i : ℕ) (d : A) → i < n → get_or (rows_from f n k) i d ≡ f (i + k)
  unfolding rows_from
  rows_get zero k i d l = absurd (omega arith)
  rows_get (suc n) k zero d l = ap f (omega arith)
  rows_get (suc n) k (suc i) d l = let q : i + suc k ≡ suc i + k = omega arith in rows_get n (suc k) i d (omega arith) ∙ ap f q

  pub rows-map : {B : Type 0} (g : A → B) (n k : ℕ) → map g (rows_from f n k) ≡ rows_from (λ i. g (f i)) n k
  unfolding rows_from
  rows-map g zero k = refl
  rows-map g (suc n) k = rw (rows-map g n (suc k))

  pub each_of : (P : A → Type 0) (n k : ℕ) → Each P (rows_from f n k) → (i : ℕ) → k ≤ i → i < n + k → P (f i)
  unfolding rows_from
  each_of P zero k h i l u = absurd (omega arith)
  each_of P (suc n) k h i l u =
      by-test (eqb k i) (λ t. subst (λ (j : ℕ). P (f j)) (eqb-true k i t) h.0)
      (λ t. each_of P n (suc k) h.1 i (omega (arith, eqb-false k i t)) (omega arith))

  pub each_all : (P : A → Type 0) (n k : ℕ) → ((i : ℕ) → k ≤ i → i < n + k → P (f i)) → Each P (rows_from f n k)
  unfolding rows_from
  each_all P zero k h = tt
  each_all P (suc n) k h = (h k (omega arith) (omega arith), each_all P n (suc k) (λ i l u. h i (omega arith) (omega arith)))

  pub rising-of : (R : A → A → Type 0) (n k : ℕ) → Rising R (rows_from f n k) → (i j : ℕ) → k ≤ i → i < j → j < n + k → R (f i) (f j)
  unfolding rows_from
  rising-of R zero k h i j l m u = absurd (omega arith)
  rising-of R (suc n) k h i j l m u =
      by-test (eqb k i) (λ t. subst (λ (x : ℕ). R (f x) (f j)) (eqb-true k i t) (each_of (R (f k)) n (suc k) h.0 j (omega (arith, eqb-true k i t)) (omega arith)))
      (λ t. rising-of R n (suc k) h.1 i j (omega (arith, eqb-false k i t)) m (omega arith))

  pub rising-all : (R : A → A → Type 0) (n k : ℕ) → ((i j : ℕ) → k ≤ i → i < j → j < n + k → R (f i) (f j)) → Rising R (rows_from f n k)
  unfolding rows_from
  rising-all R zero k h = tt
  rising-all R (suc n) k h =
      (each_all (R (f k)) n (suc k) (λ j l u. h k j (omega arith) (omega arith) (omega arith)), rising-all R n (suc k) (λ i j l m u. h i j (omega arith) m (omega arith)))

-- rows that agree are equal
pub rows_same : {A : Type 0} (f g : ℕ → A) (n k : ℕ) → ((i : ℕ) → k ≤ i → i < n + k → f i ≡ g i) → rows_from f n k ≡ rows_from g n k
unfolding rows_from
rows_same f g zero k h = refl
rows_same f g (suc n) k h = λ j. h k (omega arith) (omega arith) j ∷ rows_same f g n (suc k) (λ i l u. h i (omega arith) (omega arith)) j

-- ---- places filled one by one, by f, the rest with z
module _ {A : Type 0} (z : A) (f : ℕ → A) where
  pub rows_snoc : (i k : ℕ) → rows_from f (suc i) k ≡ rows_from f i k ++ (f (i + k) ∷ [])
  unfolding rows_from
  rows_snoc zero k = ap (λ (j : ℕ). f j ∷ []) (omega arith)
  rows_snoc (suc i) k =
      let q : i + suc k ≡ suc i + k = omega arith in
      ap (λ (l : List A). f k ∷ l) (rows_snoc i (suc k) ∙ ap (λ (j : ℕ). rows_from f i (suc k) ++ (f j ∷ [])) q)

  pub fill-begin : (n : ℕ) → replicate n z ≡ filled z f n 0
  unfolding rows_from
  fill-begin n = let q : n ≡ n - 0 = omega arith in ap (λ (m : ℕ). replicate m z) q

  pub fill_step : (n i : ℕ) → i < n → set (filled z f n i) i (f i) ≡ filled z f n (i + 1)
  fill_step n i h =
      let q : n - i ≡ suc (n - (i + 1)) = omega arith in
      let y : i + 0 ≡ i = omega arith in
      ap (λ (m : ℕ). set (rows_from f i 0 ++ replicate m z) i (f i)) q
      ∙ set_at (rows_from f i 0) z (replicate (n - (i + 1)) z) (f i) i (rows-length f i 0)
      ∙ sym (append_snoc (rows_from f i 0) (f i) (replicate (n - (i + 1)) z))
      ∙ ap (λ (l : List A). l ++ replicate (n - (i + 1)) z) (ap (λ (j : ℕ). rows_from f i 0 ++ (f j ∷ [])) (sym y) ∙ sym (rows_snoc i 0) ∙ ap (λ (j : ℕ). rows_from f j 0) (sym (add-one i)))

  -- a place that is filled, and one that is not
  pub filled_at : (n i k : ℕ) (d : A) → k < i → get_or (filled z f n i) k d ≡ f k
  filled_at n i k d h = get_or-append (rows_from f i 0) (replicate (n - i) z) d k (omega (arith, rows-length f i 0)) ∙ rows_get f i 0 k d h ∙ ap f (omega arith)
