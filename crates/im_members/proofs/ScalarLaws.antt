-- A scalar at a place: THE LAW that it is what the tree there is.
use Rattle.std.specs.Prelude.{Some, None, Option}
use mathlib.Core.Path.{◌≡◌, refl, sym, ◌∙◌}
use mathlib.Core.Bool.{Bool}
use mathlib.Core.List.{List}
use Prim.Native.Nat.{ℕ, zero, suc, ◌-◌, ◌≤◌}
use native.Mathlib.Omega.{arith}
use borrow.Author.Tests.{ne_eqb, le-ltb, lt-ltb, ltb-true, ltb-false}
use lib.ListN.{length, take, drop}
use lib.Dec.{ltb}
use Rattle.tlv_reader.specs.declared.Element.{Element}
use Rattle.tlv_reader.specs.Octet.{structure, list}
use Rattle.tlv_reader.specs.Tree.{Tag, Primitive, Tree, Trees, tag_of, scalar_of, primitive_of}
use Rattle.tlv_reader.specs.Tree.Tree.{container}
use Rattle.tlv_reader.specs.Head.{head_at}
use Rattle.tlv_reader.specs.Walk.{Got, map_g, headed}
use Rattle.tlv_reader.specs.Walk.Got.{got, bad}
use Rattle.tlv_reader.specs.Decode.{trees_from, tree_by, tree_of, tree_at}
use Rattle.tlv_reader.proofs.Picks.{choose-elim}
use Rattle.tlv_reader.proofs.ValueLaws.{Each, each}
use Rattle.im_members.specs.Fields.{slot_in, or_none}
use Rattle.im_members.specs.Fields.Slot.{present}
use Rattle.im_members.specs.Scalar.{WRONG, scalar_in, number_of, flag_of, wide_of, number_in, flag_in, wide_in, scalar_t, number_p, flag_p, wide_p, number_t, flag_t, wide_t}

-- ---- a scalar in bytes is the scalar of the tree

-- for each element type: what is made of type and number is what is made of the value
abbrev Agrees : (ℕ → ℕ → ℕ) → (Primitive → ℕ) → ℕ → Type 0
Agrees g F k = (n : ℕ) (b : List ℕ) → g k n ≡ F (primitive_of k n b)

module _ (g : ℕ → ℕ → ℕ) (F : Primitive → ℕ) (agrees : Each (Agrees g F) structure) (over : (k n : ℕ) → structure ≤ k → g k n ≡ WRONG) where
  container-scalar : (t : Tag) (k : ℕ) (ts : Got Trees) → scalar_t F (present (or_none (map_g (container t k) ts))) ≡ WRONG
  container-scalar t k bad = refl
  container-scalar t k (got ts n) = refl

  by_scalar : (s : List ℕ) (inner : ℕ → ℕ → Got Trees) (e : Element) → g e.kind e.number ≡ scalar_t F (present (or_none (tree_by s inner e)))
  unfolding tree_by
  by_scalar s inner e =
      let R : Got Tree → Type 0 = λ t. g e.kind e.number ≡ scalar_t F (present (or_none t)) in
      choose-elim R (ltb e.kind structure) _ _ (λ l. each (Agrees g F) structure agrees e.kind (ltb-true e.kind structure l) e.number (take e.number (drop e.body s)))
      (λ l. choose-elim R (ltb list e.kind) _ _ (λ _. over e.kind e.number (ltb-false e.kind structure l))
      (λ _. over e.kind e.number (ltb-false e.kind structure l) ∙ sym (container-scalar (tag_of e.form e.tag) e.kind (inner e.kind e.next.at))))

  of-scalar : (d : ℕ) (s : List ℕ) (e : Element) → g e.kind e.number ≡ scalar_t F (present (or_none (tree_of d s e)))
  unfolding tree_of
  of-scalar zero s e = by_scalar s (λ k n. bad) e
  of-scalar (suc d) s e = by_scalar s (λ k n. trees_from (tree_of d s) (length s) s k n) e

  headed-scalar : (d : ℕ) (s : List ℕ) (h : (Option Element)) → headed WRONG (λ e. g e.kind e.number) h ≡ scalar_t F (present (or_none (headed bad (tree_of d s) h)))
  headed-scalar d s None = refl
  headed-scalar d s (Some e) = of-scalar d s e

  pub scalar-law : (d : ℕ) (s : List ℕ) (p : ℕ) → scalar_in (λ e. g e.kind e.number) s p ≡ scalar_t F (slot_in d s p)
  unfolding slot_in tree_at
  scalar-law d s zero = refl
  scalar-law d s (suc p) =
      let e : suc p - 1 ≡ p = omega arith in
      rw (ne_eqb (suc p) 0 (λ z. omega arith), e) (headed-scalar d s (head_at s p))

-- ---- the three scalars

pub number-law : (most : ℕ) (nullable : Bool) (d : ℕ) (s : List ℕ) (p : ℕ) → number_in most nullable s p ≡ number_t most nullable (slot_in d s p)
unfolding number_in number_t number_of primitive_of scalar_of
number-law most nullable d s p =
    scalar-law (number_of most nullable) (number_p most nullable)
    (((((((((((((((((((((tt, λ n b. refl), λ n b. refl), λ n b. refl), λ n b. refl), λ n b. refl), λ n b. refl), λ n b. refl), λ n b. refl), λ n b. refl), λ n b. refl), λ n b. refl), λ n b. refl), λ n b. refl), λ n b. refl), λ n b. refl), λ n b. refl), λ n b. refl), λ n b. refl), λ n b. refl), λ n b. refl), λ n b. refl)
    (λ k n l. simp (ne_eqb k 20 (λ z. omega arith), le-ltb k 4 (omega arith), lt-ltb 7 k (omega arith))) d s p

pub flag-law : (d : ℕ) (s : List ℕ) (p : ℕ) → flag_in s p ≡ flag_t (slot_in d s p)
unfolding flag_in flag_t flag_of primitive_of scalar_of
flag-law d s p =
    scalar-law (λ k n. flag_of k) flag_p
    (((((((((((((((((((((tt, λ n b. refl), λ n b. refl), λ n b. refl), λ n b. refl), λ n b. refl), λ n b. refl), λ n b. refl), λ n b. refl), λ n b. refl), λ n b. refl), λ n b. refl), λ n b. refl), λ n b. refl), λ n b. refl), λ n b. refl), λ n b. refl), λ n b. refl), λ n b. refl), λ n b. refl), λ n b. refl), λ n b. refl)
    (λ k n l. simp (ne_eqb k 8 (λ z. omega arith), ne_eqb k 9 (λ z. omega arith))) d s p

pub wide-law : (d : ℕ) (s : List ℕ) (p : ℕ) → wide_in s p ≡ wide_t (slot_in d s p)
unfolding wide_in wide_t wide_of primitive_of scalar_of
wide-law d s p =
    scalar-law (λ k n. wide_of k) wide_p
    (((((((((((((((((((((tt, λ n b. refl), λ n b. refl), λ n b. refl), λ n b. refl), λ n b. refl), λ n b. refl), λ n b. refl), λ n b. refl), λ n b. refl), λ n b. refl), λ n b. refl), λ n b. refl), λ n b. refl), λ n b. refl), λ n b. refl), λ n b. refl), λ n b. refl), λ n b. refl), λ n b. refl), λ n b. refl), λ n b. refl)
    (λ k n l. simp (le-ltb k 4 (omega arith), lt-ltb 7 k (omega arith))) d s p
