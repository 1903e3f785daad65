-- In a list that rises, the changes are as many as the different numbers.
use Rattle.std.proofs.Common.{◌≡◌, ℕ, suc, ◌<◌, ◌≤◌, true, false, eqb, List, [], ◌∷◌, sym, refl, arith, eq-eqb, ne_eqb, eqb-true}
use borrow.Author.Tests.{eqb-false}
use Rattle.node_schema.specs.Layout.{half}
use Rattle.node_schema.specs.Check.{changes}
use Rattle.node_schema.specs.Rules.{Each, Rising, member, different}
use Rattle.node_schema.proofs.BoolLaws.{by-test}

weaken : {A : Type 0} (P Q : A → Type 0) → ((z : A) → P z → Q z) → (l : List A) → Each P l → Each Q l
weaken P Q f [] h = tt
weaken P Q f (x ∷ l) h = (f x h.0, weaken P Q f l h.1)

no_member : (x : ℕ) (l : List ℕ) → Each (λ z. x < z) l → member x l ≡ false
unfolding member
no_member x [] h = refl
no_member x (y ∷ l) h =
    let e : eqb x y ≡ false = ne_eqb x y (omega arith) in
    rw e (no_member x l h.1)

-- below a rising list, only its head can be the same
member-head : (x y : ℕ) (l : List ℕ) → x ≤ y → Each (λ z. y ≤ z) l → member x (y ∷ l) ≡ eqb x y
unfolding member
member-head x y l h r =
    by-test (eqb x y) (λ t. rw t)
    (λ t. rw t (no_member x l (weaken (λ z. y ≤ z) (λ z. x < z) (λ z le. omega (arith, eqb-false x y t)) l r)))

changes-different : (x : ℕ) (l : List ℕ) → Rising ◌≤◌ (x ∷ l) → suc (changes x l) ≡ different (x ∷ l)
unfolding changes different member
changes-different x [] h = refl
changes-different x (y ∷ l) h =
    let ih = changes-different y l h.1 in
    rw (member-head x y l h.0.0 h.1.0)
    (by-test (eqb x y) (λ t. let e : eqb y x ≡ true = eq-eqb y x (sym (eqb-true x y t)) in rw (t, e) (omega arith))
    (λ t. let e : eqb y x ≡ false = ne_eqb y x (λ q. eqb-false x y t (sym q)) in rw (t, e) (omega arith)))

pub changes-count : (l : List ℕ) → Rising ◌≤◌ l → Each (λ x. x < half) l → changes half l ≡ different l
unfolding changes different
changes-count [] h s = refl
changes-count (x ∷ l) h s =
    let e : eqb x half ≡ false = ne_eqb x half (omega arith) in
    rw e (omega (arith, changes-different x l h))
