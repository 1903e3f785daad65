-- A cluster is coherent exactly if the cache is primed and all its entries, one at least, share one version, which is not none (RULES 7.11).
use Rattle.std.specs.Prelude.{Some, None}
use mathlib.Core.Path.{◌≡◌, refl, sym, ap, ◌∙◌}
use mathlib.Core.Logic.{◌↔◌}
use mathlib.Core.Bool.{true, false, ◌&&◌}
use mathlib.Core.List.{List, [], ◌∷◌}
use Prim.Native.Nat.{ℕ, zero, suc, ◌+◌, ◌/◌, ◌≤◌, ◌<◌}
use native.Mathlib.Omega.{arith}
use borrow.Author.Tests.{eq-eqb, eqb-true, eqb-false, ltb-true, lt-ltb}
use lib.Dec.{eqb, ltb}
use lib.ListN.{get_or}
use Rattle.node_schema.proofs.BoolLaws.{both, left, right, by-test}
use Rattle.cache_entries.specs.declared.Cached.{Cached}
use Rattle.cache_entries.specs.Limits.{half, no_version}
use Rattle.cache_entries.specs.Coherent.{versions_from, versions_of, all_are, shared, coherent_at, Of, All, Any}
use Rattle.cache_entries.proofs.SharedLaws.{coherent-primed, coherent-unprimed}

never : {A : Type 0} → ◌≡◌ {A = ℕ} 0 1 → A
never e = absurd (omega arith)

module _ (c : Cached) (k v : ℕ) where
  abbrev versions : ℕ → ℕ → List ℕ
  versions = versions_from c.keys c.versions k

  to-all : (n i : ℕ) → all_are v (versions n i) ≡ true → All c k v n i
  unfolding versions_from all_are
  to-all zero i h j a b o = absurd (omega arith)
  to-all (suc n) i h j a b o = by-test (eqb (get_or c.keys i 0 / half) k) (λ t. here (rw t at h) (λ q. to-all n (i + 1) q j)) (λ f. there f (to-all n (i + 1) (rw f at h) j))
    where
      here : (eqb (get_or c.versions i 0) v && all_are v (versions n (i + 1))) ≡ true → (all_are v (versions n (i + 1)) ≡ true → i + 1 ≤ j → j < n + (i + 1) → Of c k j → get_or c.versions j 0 ≡ v) → get_or c.versions j 0 ≡ v
      here q next =
          by-test (eqb i j) (λ e. ap (λ (x : ℕ). get_or c.versions x 0) (sym (eqb-true i j e)) ∙ eqb-true _ _ (left _ _ q))
          (λ e. next (right (eqb (get_or c.versions i 0) v) _ q) (omega (arith, eqb-false i j e)) (omega arith) o)

      there : eqb (get_or c.keys i 0 / half) k ≡ false → (i + 1 ≤ j → j < n + (i + 1) → Of c k j → get_or c.versions j 0 ≡ v) → get_or c.versions j 0 ≡ v
      there f next =
          by-test (eqb i j) (λ e. absurd (eqb-false _ _ f (ap (λ (x : ℕ). get_or c.keys x 0 / half) (eqb-true i j e) ∙ o)))
          (λ e. next (omega (arith, eqb-false i j e)) (omega arith) o)

  from_all : (n i : ℕ) → All c k v n i → all_are v (versions n i) ≡ true
  unfolding versions_from all_are
  from_all zero i h = refl
  from_all (suc n) i h =
      let rest : all_are v (versions n (i + 1)) ≡ true = from_all n (i + 1) (λ j a b o. h j (omega arith) (omega arith) o) in
      by-test (eqb (get_or c.keys i 0 / half) k)
      (λ t. rw t (both _ _ (eq-eqb _ _ (h i (omega arith) (omega arith) (eqb-true _ _ t))) rest)) (λ f. rw f rest)

  to_some : (n i : ℕ) {x : ℕ} {l : List ℕ} → versions n i ≡ x ∷ l → Any c k n i
  unfolding versions_from
  to_some zero i h = never (cc)
  to_some (suc n) i {x} {l} h = by-test (eqb (get_or c.keys i 0 / half) k) (λ t. (i, omega arith, omega arith, eqb-true _ _ t)) (λ f. next (to_some n (i + 1) (rw f at h)))
    where
      next : Any c k n (i + 1) → Any c k (suc n) i
      next s = (s.0, omega (arith, s.1), omega (arith, s.2), s.3)

  from_some : (n i : ℕ) → Any c k n i → (x : ℕ) × (l : List ℕ) × (versions n i ≡ x ∷ l)
  unfolding versions_from
  from_some zero i s = absurd (omega (arith, s.1, s.2))
  from_some (suc n) i s = by-test (eqb (get_or c.keys i 0 / half) k) (λ t. (get_or c.versions i 0, versions n (i + 1), rw t refl))
      (λ f. let r = from_some n (i + 1) (s.0, later f, omega (arith, s.2), s.3) in (r.0, r.1, rw f r.2))
    where
      later : eqb (get_or c.keys i 0 / half) k ≡ false → i + 1 ≤ s.0
      later f = by-test (eqb i s.0) (λ e. absurd (eqb-false _ _ f (ap (λ (x : ℕ). get_or c.keys x 0 / half) (eqb-true i s.0 e) ∙ s.3)))
          (λ e. omega (arith, eqb-false i s.0 e, s.1))

  -- one version that all of a list share
  to-shared : (l : List ℕ) → shared l ≡ Some v → (v < no_version) × ((x : ℕ) × (m : List ℕ) × (l ≡ x ∷ m)) × (all_are v l ≡ true)
  unfolding all_are
  to-shared [] h = never (cc)
  to-shared (x ∷ l) h =
      by-test (ltb x no_version && all_are x l)
      (λ t. let q : Some x ≡ Some v = rw t at h in
      let e : x ≡ v = cc in
      (omega (arith, e, ltb-true x no_version (left _ _ t)), (x, l, refl), both _ _ (eq-eqb x v e) (ap (λ (y : ℕ). all_are y l) (sym e) ∙ right (ltb x no_version) _ t)))
      (λ f. never (let q : None ≡ Some v = rw f at h in cc))

  from-shared : (x : ℕ) (l : List ℕ) → v < no_version → all_are v (x ∷ l) ≡ true → shared (x ∷ l) ≡ Some v
  unfolding all_are
  from-shared x l low h =
      let e : x ≡ v = eqb-true x v (left _ _ h) in
      rw (lt-ltb x no_version (omega (arith, e)), ap (λ (y : ℕ). all_are y l) e ∙ right (eqb x v) _ h) (ap Some e)

  -- THE LAW
  pub coherent-exactly : (coherent_at c k ≡ Some v) ↔ ((c.primed ≡ true) × (v < no_version) × Any c k c.count 0 × All c k v c.count 0)
  coherent-exactly = (to, from)
    where
      to : coherent_at c k ≡ Some v → (c.primed ≡ true) × (v < no_version) × Any c k c.count 0 × All c k v c.count 0
      to h =
          by-test c.primed
          (λ t. let (low, (x, l, e), all) = to-shared (versions_of c k) (sym (coherent-primed c k t) ∙ h) in (t, low, to_some c.count 0 e, to-all c.count 0 all))
          (λ f. never (let q : None ≡ Some v = sym (coherent-unprimed c k f) ∙ h in cc))

      from : (c.primed ≡ true) × (v < no_version) × Any c k c.count 0 × All c k v c.count 0 → coherent_at c k ≡ Some v
      from (t, low, some, all) =
          let (x, l, e) = from_some c.count 0 some in
          coherent-primed c k t ∙ ap shared e ∙ from-shared x l low (ap (all_are v) (sym e) ∙ from_all c.count 0 all)
