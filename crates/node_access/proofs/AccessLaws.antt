-- Access is granted exactly if some entry covers subject, endpoint, cluster and privilege (RULES 2.15), and the highest privilege says the same.
use mathlib.Core.Path.{◌≡◌, refl, sym, ap, ◌∙◌}
use mathlib.Core.Logic.{◌↔◌, ⊎_elim}
use mathlib.Core.Bool.{Bool, true, false, cond, ◌&&◌, ◌||◌, and-true, and-false, or-true, false≢true}
use mathlib.Core.List.Memᴰ
use mathlib.Core.List.{List, [], ◌∷◌, Memᴰ}
use Prim.Native.Nat.{ℕ, max, ◌≤◌}
use native.Mathlib.Omega.{arith}
use borrow.Author.Tests.{leb-true, leb-false, le-leb, lt-leb, ltb-true, ltb-false}
use lib.Dec.{leb, ltb}
use Rattle.node_schema.proofs.BoolLaws.{both, left, right, by-test, same}
use Rattle.node_access.specs.declared.AccessEntry.{AccessEntry}
use Rattle.node_access.specs.Access.{covers_place, covers_e, granted, SomeCovers, given_by, level_of, view}

leb-max : (p a b : ℕ) → leb p (max a b) ≡ (leb p a || leb p b)
leb-max p a b =
    by-test (leb p a) (λ t. le-leb p (max a b) (omega (arith, leb-true p a t)) ∙ sym (rw t))
    (λ t.
    by-test (leb p b) (λ u. le-leb p (max a b) (omega (arith, leb-true p b u)) ∙ sym (rw (t, u)))
    (λ u. lt-leb p (max a b) (omega (arith, leb-false p a t, leb-false p b u)) ∙ sym (rw (t, u))))

leb-given : (b : Bool) (p q : ℕ) → view ≤ p → leb p (cond b q 0) ≡ (leb p q && b)
leb-given true p q h = sym (and-true (leb p q))
leb-given false p q h = lt-leb p 0 (omega arith) ∙ sym (and-false (leb p q))

module _ (s n c : ℕ) where
  -- the highest privilege and the test are one answer
  pub level-granted : (es : List AccessEntry) (p : ℕ) → view ≤ p → leb p (level_of es s n c) ≡ granted es s n c p
  unfolding level_of granted given_by covers_e
  level-granted [] p h = lt-leb p 0 (omega arith)
  level-granted (e ∷ es) p h =
      leb-max p (given_by e s n c) (level_of es s n c) ∙ rw (leb-given (covers_place e s n c) p e.privilege h, level-granted es p h)

  some-step : (e : AccessEntry) (es : List AccessEntry) (p : ℕ) (b : Bool) → covers_e e s n c p ≡ b → (granted es s n c p ≡ true → SomeCovers es s n c p) → (b || granted es s n c p) ≡ true → SomeCovers (e ∷ es) s n c p
  some-step e es p true t f h = (e, Memᴰ.head refl, t)
  some-step e es p false t f h = let r = f h in (r.0, Memᴰ.tail r.1, r.2)

  pub granted-some : (es : List AccessEntry) (p : ℕ) → granted es s n c p ≡ true → SomeCovers es s n c p
  unfolding granted
  granted-some [] p h = absurd (false≢true h)
  granted-some (e ∷ es) p h = some-step e es p (covers_e e s n c p) refl (granted-some es p) h

  pub some-granted : (es : List AccessEntry) (p : ℕ) → SomeCovers es s n c p → granted es s n c p ≡ true
  unfolding granted
  some-granted [] p r = absurd (Memᴰ.not-nil r.1)
  some-granted (e ∷ es) p r =
      ⊎_elim (λ q. let t : covers_e e s n c p ≡ true = ap (λ (x : AccessEntry). covers_e x s n c p) (sym q) ∙ r.2 in rw t)
      (λ m. rw (some-granted es p (r.0, m, r.2)) (or-true (covers_e e s n c p)))
      (Memᴰ.cases_cons r.1)

  -- RULES 2.15
  pub granted-exactly : (es : List AccessEntry) (p : ℕ) → (granted es s n c p ≡ true) ↔ SomeCovers es s n c p
  granted-exactly es p = (granted-some es p, some-granted es p)

  pub level-exactly : (es : List AccessEntry) (p : ℕ) → view ≤ p → (p ≤ level_of es s n c) ↔ SomeCovers es s n c p
  level-exactly es p h =
      (λ l. granted-some es p (sym (level-granted es p h) ∙ le-leb p _ l), λ r. leb-true p _ (level-granted es p h ∙ some-granted es p r))

  -- RULES 2.12: a privilege includes the lower ones
  pub covers-lower : (e : AccessEntry) (p q : ℕ) → q ≤ p → covers_e e s n c p ≡ true → covers_e e s n c q ≡ true
  unfolding covers_e
  covers-lower e p q l h =
      both (leb q e.privilege) (covers_place e s n c) (le-leb q e.privilege (omega (arith, leb-true p e.privilege (left _ _ h)))) (right (leb p e.privilege) _ h)

  pub granted-lower : (es : List AccessEntry) (p q : ℕ) → q ≤ p → granted es s n c p ≡ true → granted es s n c q ≡ true
  granted-lower es p q l h =
      let r = granted-some es p h in
      some-granted es q (r.0, r.1, covers-lower r.0 p q l r.2)

  -- a list that has all the entries of another grants all that the other grants: an entry more takes no access away
  module _ (es fs : List AccessEntry) (within : (e : AccessEntry) → Memᴰ e es → Memᴰ e fs) where
    pub granted-more : (p : ℕ) → granted es s n c p ≡ true → granted fs s n c p ≡ true
    granted-more p h =
        let r = granted-some es p h in
        some-granted fs p (r.0, within r.0 r.1, r.2)

    pub level-more : level_of es s n c ≤ level_of fs s n c
    level-more =
        by-test (ltb 0 (level_of es s n c))
        (λ t.
        let l : view ≤ level_of es s n c = omega (arith, ltb-true 0 (level_of es s n c) t) in
        let k : level_of es s n c ≤ level_of es s n c = omega arith in
        let g = granted-more (level_of es s n c) (sym (level-granted es _ l) ∙ le-leb _ _ k) in
        leb-true _ _ (level-granted fs _ l ∙ g))
        (λ t. omega (arith, ltb-false 0 (level_of es s n c) t))

  -- the order of the entries does not matter, nor that one stands twice
  module _ (es fs : List AccessEntry) (within : (e : AccessEntry) → Memᴰ e es → Memᴰ e fs) (back : (e : AccessEntry) → Memᴰ e fs → Memᴰ e es) where
    pub granted-order : (p : ℕ) → granted es s n c p ≡ granted fs s n c p
    granted-order p = same (granted es s n c p) (granted fs s n c p) (granted-more es fs within p) (granted-more fs es back p)

    pub level-order : level_of es s n c ≡ level_of fs s n c
    level-order = omega (arith, level-more es fs within, level-more fs es back)
