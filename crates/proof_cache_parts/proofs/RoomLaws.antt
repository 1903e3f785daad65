-- THE PIGEONHOLE LAW: where each of n places has a row of its own among m, and one of the m rows is free, n is below m.
use mathlib.Core.Path.{◌≡◌, refl, sym, subst, ◌∙◌}
use mathlib.Core.Logic.{◌⊎◌, inl, inr}
use Prim.Native.Nat.{ℕ, zero, suc, ◌<◌}
use native.Mathlib.Omega.{arith}
use borrow.Author.Tests.{eqb-true, eqb-false}
use lib.Dec.{eqb}
use Rattle.node_schema.proofs.BoolLaws.{by-test}

-- place j has row r: Row j r
pub room-left : (m n : ℕ) (Row : ℕ → ℕ → Type 0) (free : ℕ) → free < m → ((j : ℕ) → j < n → (r : ℕ) × (r < m) × Row j r) → ((i j r : ℕ) → i < n → j < n → Row i r → Row j r → i ≡ j) → ((j : ℕ) → j < n → Row j free → ⊥) → n < m
room-left zero n Row free f has one none = absurd (omega arith)
room-left (suc m) zero Row free f has one none = omega arith
room-left (suc m) (suc n) Row free f has one none =
    let last = moved n (omega arith) in
    let rest : n < m =
    room-left m n Moved last.0 last.1 (λ j l. moved j (omega arith)) (λ i j r a b. same i j r (omega arith) (omega arith)) (λ j l h. omega (arith, same j n last.0 (omega arith) (omega arith) h last.2)) in
    omega (arith, rest)
  where
    -- whoever had the last row has the free one instead
    Moved : ℕ → ℕ → Type 0
    Moved j r = Row j r ⊎ (Row j m × (r ≡ free))

    moved : (j : ℕ) → j < suc n → (r : ℕ) × (r < m) × Moved j r
    moved j l = let (r, b, h) = has j l in by-test (eqb r m)
        (λ t. let q = eqb-true r m t in
        (free, by-test (eqb free m) (λ u. absurd (none j l (subst (Row j) (q ∙ sym (eqb-true free m u)) h))) (λ u. omega (arith, f, eqb-false free m u)), inr (subst (Row j) q h, refl)))
        (λ t. (r, omega (arith, b, eqb-false r m t), inl h))

    same : (i j r : ℕ) → i < suc n → j < suc n → Moved i r → Moved j r → i ≡ j
    same i j r a b (inl h) (inl k) = one i j r a b h k
    same i j r a b (inl h) (inr k) = absurd (none i a (subst (Row i) k.1 h))
    same i j r a b (inr h) (inl k) = absurd (none j b (subst (Row j) h.1 k))
    same i j r a b (inr h) (inr k) = one i j m a b h.0 k.0
