-- Words that stand once each: each is found where it stands, and one more that is put where it goes leaves them so.
use Rattle.std.specs.Prelude.{Some, None, Option}
use mathlib.Core.Path.{◌≡◌, refl, sym, ap, ◌∙◌}
use mathlib.Core.List.{List}
use Prim.Native.Nat.{ℕ, ◌≤◌, ◌<◌}
use native.Mathlib.Omega.{arith}
use borrow.Author.Tests.{eqb-true, eqb-false}
use lib.Dec.{eqb}
use lib.ListN.{length, get_or, set}
use lib.Seq.{get_or-set_same, get_or-set_other}
use Rattle.node_schema.proofs.SearchLaws as Search
use Rattle.node_schema.proofs.BoolLaws.{by-test}
use Rattle.cache_order.specs.Order.{word_at}
use Rattle.cache_entries.specs.Set.{place_for, count_with}
use Rattle.cache_entries.proofs.SetLaws.{placed_below, placed-next, counted-other}

abbrev pub Once : List ℕ → ℕ → Type 0
Once l n = (i j : ℕ) → i < n → j < n → get_or l i 0 ≡ get_or l j 0 → i ≡ j

-- a word that is not found stands nowhere
pub not_there : (l : List ℕ) (n x : ℕ) → word_at l n x ≡ None → (j : ℕ) → j < n → get_or l j 0 ≡ x → ⊥
unfolding word_at
not_there l n x e j b =
    eqb-false (get_or l j 0) x (Search.none (λ i. eqb (get_or l i 0) x) n 0 j e (omega arith) (omega arith))

module _ (l : List ℕ) (n : ℕ) (once : Once l n) where
  pub found-once : (x j : ℕ) → j < n → get_or l j 0 ≡ x → word_at l n x ≡ Some j
  unfolding word_at
  found-once x j b e = go (word_at l n x) refl
    where
      go : (f : (Option ℕ)) → word_at l n x ≡ f → word_at l n x ≡ Some j
      go (Some i) q =
          let h = Search.found (λ k. eqb (get_or l k 0) x) n 0 i q in
          q ∙ ap Some (once i j (omega (arith, h.below)) b (eqb-true _ _ h.holds ∙ sym e))
      go None q = absurd (not_there l n x q j b e)

  module _ (limit x i : ℕ) (few : n ≤ limit) (long : limit ≤ length l) (at : place_for n limit (word_at l n x) ≡ Some i) where
    own : get_or (set l i x) i 0 ≡ x
    own = get_or-set_same l i x 0 (omega (arith, placed_below l n limit x i few at, long))

    -- the word stood nowhere else
    elsewhere : (j : ℕ) → j < n → get_or l j 0 ≡ x → j ≡ i
    elsewhere j b e = let q : Some j ≡ Some i = sym (ap (place_for n limit) (found-once x j b e)) ∙ at in cc

    pub once-set : Once (set l i x) (count_with n i)
    once-set a b p q e = by-test (eqb a i)
        (λ t. by-test (eqb b i) (λ u. eqb-true a i t ∙ sym (eqb-true b i u))
        (λ u. let h = eqb-false b i u in absurd (h (elsewhere b (below b q h) (sym (other b h) ∙ sym e ∙ at_own a (eqb-true a i t))))))
        (λ t. let g = eqb-false a i t in by-test (eqb b i) (λ u. absurd (g (elsewhere a (below a p g) (sym (other a g) ∙ e ∙ at_own b (eqb-true b i u)))))
        (λ u. let h = eqb-false b i u in once a b (below a p g) (below b q h) (sym (other a g) ∙ e ∙ other b h)))
      where
        at_own : (j : ℕ) → j ≡ i → get_or (set l i x) j 0 ≡ x
        at_own j z = ap (λ (m : ℕ). get_or (set l i x) m 0) z ∙ own

        other : (j : ℕ) → (j ≡ i → ⊥) → get_or (set l i x) j 0 ≡ get_or l j 0
        other j z = get_or-set_other l i j x 0 z

        below : (j : ℕ) → j < count_with n i → (j ≡ i → ⊥) → j < n
        below j c z = counted-other n i j (placed-next l n limit x i at) z c
