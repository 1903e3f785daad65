-- One law for every search: how `first` begins, hits, misses and ends, and what its answer says.
use Rattle.std.proofs.Common.{◌≡◌, ℕ, zero, suc, ◌+◌, ◌-◌, ◌<◌, ◌≤◌, Bool, true, false, eqb, sym, refl, ap, ◌∙◌, arith, eqb-true, Some, None}
use borrow.Author.Tests.{eqb-false}
use Rattle.node_schema.specs.Search.{first, pick}
use Rattle.node_schema.proofs.BoolLaws.{by-test}

module _ (p : ℕ → Bool) (n : ℕ) where
  step : (i : ℕ) → i < n → first p (n - i) i ≡ pick (p i) (Some i) (first p (n - (i + 1)) (i + 1))
  unfolding first
  step i h =
      let q : n - i ≡ suc (n - (i + 1)) = omega arith in
      rw q

  pub begin : first p n 0 ≡ first p (n - 0) 0
  begin = ap (λ (m : ℕ). first p m 0) (omega arith)

  pub hit : (i : ℕ) → i < n → first p n 0 ≡ first p (n - i) i → p i ≡ true → Some i ≡ first p n 0
  hit i h inv t = sym (inv ∙ step i h ∙ rw t)

  pub miss : (i : ℕ) → i < n → first p n 0 ≡ first p (n - i) i → p i ≡ false → first p n 0 ≡ first p (n - (i + 1)) (i + 1)
  miss i h inv t = inv ∙ step i h ∙ rw t

  pub done : (i : ℕ) → n ≤ i → first p n 0 ≡ first p (n - i) i → None ≡ first p n 0
  unfolding first
  done i h inv =
      let q : n - i ≡ 0 = omega arith in
      sym (inv ∙ rw q)

-- what is found is one of the n, and has p
pub record Hit (p : ℕ → Bool) (n k i : ℕ) : Type 0 where
  pub from : k ≤ i
  pub below : i < n + k
  pub holds : p i ≡ true

found-step : (p : ℕ → Bool) (n k i : ℕ) (b : Bool) → p k ≡ b → (first p n (k + 1) ≡ Some i → Hit p n (k + 1) i) → pick b (Some k) (first p n (k + 1)) ≡ Some i → Hit p (suc n) k i
found-step p n k i true t f h =
    let q : k ≡ i = cc in
    record { from = omega arith; below = omega arith; holds = rw (← q) t }
found-step p n k i false t f h =
    let r = f h in
    record { from = omega arith; below = omega arith; holds = r.holds }

pub found : (p : ℕ → Bool) (n k i : ℕ) → first p n k ≡ Some i → Hit p n k i
unfolding first
found p zero k i h = let z : ◌≡◌ {A = ℕ} 0 1 = cc in absurd (omega arith)
found p (suc n) k i h = found-step p n k i (p k) refl (found p n (k + 1) i) h

none-step : (p : ℕ → Bool) (n k i : ℕ) (b : Bool) → p k ≡ b → (first p n (k + 1) ≡ None → k + 1 ≤ i → p i ≡ false) → pick b (Some k) (first p n (k + 1)) ≡ None → k ≤ i → p i ≡ false
none-step p n k i true t f h l = let z : ◌≡◌ {A = ℕ} 0 1 = cc in absurd (omega arith)
none-step p n k i false t f h l =
    by-test (eqb k i) (λ e. ap p (sym (eqb-true k i e)) ∙ t) (λ e. f h (omega (arith, eqb-false k i e)))

-- where nothing is found none of the n has p
pub none : (p : ℕ → Bool) (n k i : ℕ) → first p n k ≡ None → k ≤ i → i < n + k → p i ≡ false
unfolding first
none p zero k i h l u = absurd (omega arith)
none p (suc n) k i h l u =
    none-step p n k i (p k) refl (λ e le. none p n (k + 1) i e le (omega arith)) h l

-- searches for the same are the same
pub first-same : (p q : ℕ → Bool) → ((i : ℕ) → p i ≡ q i) → (n k : ℕ) → first p n k ≡ first q n k
unfolding first
first-same p q h zero k = refl
first-same p q h (suc n) k = rw (h k, first-same p q h n (k + 1))
