-- What the rules of an access table say: at most 16 entries, each with one of the four privileges.
use mathlib.Core.Path.{◌≡◌, refl, ap, ◌∙◌}
use mathlib.Core.Logic.{◌↔◌, ⊎_elim}
use mathlib.Core.Bool.{Bool, true, false, cond}
use mathlib.Core.List.Memᴰ
use mathlib.Core.List.{List, [], ◌∷◌, Memᴰ}
use Prim.Native.Nat.{ℕ, ◌≤◌}
use native.Mathlib.Omega.{arith}
use borrow.Author.Tests.{leb-true, le-leb}
use lib.Dec.{leb}
use lib.ListN.{length}
use Rattle.base_bounds.specs.Bounds.{entry_limit}
use Rattle.node_schema.proofs.BoolLaws.{both, left, right}
use Rattle.node_schema.specs.Layout.{administer}
use Rattle.node_access.specs.declared.AccessEntry.{AccessEntry}
use Rattle.node_access.specs.Access.{view, covers_place, given_by, level_of, privilege_ok, privileges_ok, table_ok}

-- the entry's privilege is one of the four
abbrev InRange : AccessEntry → Type 0
InRange e = (view ≤ e.privilege) × (e.privilege ≤ administer)

privilege-range : (e : AccessEntry) → (privilege_ok e.privilege ≡ true) ↔ InRange e
unfolding privilege_ok
privilege-range e = (
  λ h. (leb-true _ _ (left (leb view e.privilege) _ h), leb-true _ _ (right (leb view e.privilege) _ h)),
  λ l. both _ _ (le-leb _ _ l.0) (le-leb _ _ l.1),
)

ok-each : (es : List AccessEntry) → privileges_ok es ≡ true → (e : AccessEntry) → Memᴰ e es → InRange e
unfolding privileges_ok
ok-each [] h e m = absurd (Memᴰ.not-nil m)
ok-each (x ∷ es) h e m =
    ⊎_elim (λ q. (privilege-range e).0 (ap (λ (y : AccessEntry). privilege_ok y.privilege) q ∙ left (privilege_ok x.privilege) (privileges_ok es) h))
    (λ k. ok-each es (right (privilege_ok x.privilege) (privileges_ok es) h) e k)
    (Memᴰ.cases_cons m)

each-ok : (es : List AccessEntry) → ((e : AccessEntry) → Memᴰ e es → InRange e) → privileges_ok es ≡ true
unfolding privileges_ok
each-ok [] f = refl
each-ok (x ∷ es) f =
    both (privilege_ok x.privilege) (privileges_ok es) ((privilege-range x).1 (f x (Memᴰ.head refl))) (each-ok es (λ e m. f e (Memᴰ.tail m)))

module _ (es : List AccessEntry) where
  pub table-exactly : (table_ok es ≡ true) ↔ ((length es ≤ entry_limit) × ((e : AccessEntry) → Memᴰ e es → (view ≤ e.privilege) × (e.privilege ≤ administer)))
  unfolding table_ok
  table-exactly = (
    λ h. (leb-true _ _ (left (leb (length es) entry_limit) _ h), ok-each es (right (leb (length es) entry_limit) _ h)),
    λ l. both _ _ (le-leb _ _ l.0) (each-ok es l.1),
  )

given-bound : (b : Bool) (q : ℕ) → q ≤ administer → cond b q 0 ≤ administer
given-bound true q h = h
given-bound false q h = omega arith

module _ (s n c : ℕ) where
  level-each : (es : List AccessEntry) → ((e : AccessEntry) → Memᴰ e es → InRange e) → level_of es s n c ≤ administer
  unfolding level_of given_by
  level-each [] f = omega arith
  level-each (e ∷ es) f =
      omega (arith, given-bound (covers_place e s n c) e.privilege (f e (Memᴰ.head refl)).1, level-each es (λ x m. f x (Memᴰ.tail m)))
