-- What the cache may read, as a list of the protocol and attribute by attribute.
use mathlib.Core.Path.{◌≡◌, refl, sym, ap, subst}
use mathlib.Core.Bool.{true}
use mathlib.Core.List.{List, [], ◌∷◌, Memᴰ}
use Prim.Native.Nat.{ℕ, zero, suc, ◌+◌, ◌≤◌, ◌<◌, max}
use native.Mathlib.Omega.{arith}
use borrow.Author.Tests.{eqb-true, eqb-false}
use lib.Dec.{eqb}
use lib.ListN.{length}
use Rattle.tlv_reader.proofs.Picks.{pick-elim}
use Rattle.node_schema.specs.Rows.{count_of_attributes}
use Rattle.node_schema.proofs.BoolLaws.{by-test}
use Rattle.node_access.specs.declared.Grants.{Grants}
use Rattle.proof_protocol.specs.Model.{ConcretePath}
use Rattle.proof_protocol.specs.Claims.{most_parts}
use Rattle.proof_refinement.specs.Terms.{place_at, may_read, readable_from}

module _ (w : List ℕ) (g : Grants) where
  few-from : (n i : ℕ) → length (readable_from w g n i) ≤ n
  unfolding readable_from
  few-from zero i = omega arith
  few-from (suc n) i =
      pick-elim (λ (l : List ConcretePath). length l ≤ suc n) (may_read w g i) _ _ (λ _. omega (arith, few-from n (i + 1))) (λ _. omega (arith, few-from n (i + 1)))

  pub readable-few : length (readable_from w g (count_of_attributes w) 0) ≤ count_of_attributes w
  readable-few = few-from (count_of_attributes w) 0

  most-few : (l : List ConcretePath) (n : ℕ) → length l ≤ n → most_parts l ≤ max 1 n
  most-few [] n h = omega arith
  most-few (p ∷ l) n h = omega (arith, h)

  pub parts-few : most_parts (readable_from w g (count_of_attributes w) 0) ≤ max 1 (count_of_attributes w)
  parts-few = most-few (readable_from w g (count_of_attributes w) 0) (count_of_attributes w) readable-few

  -- those in the list may be read
  pub record Listed (n i : ℕ) (p : ConcretePath) : Type 0 where
    pub low : i ≤ p.attribute
    pub below : p.attribute < n + i
    pub same : p ≡ place_at w p.attribute
    pub allowed : may_read w g p.attribute ≡ true

  is-from : (n i : ℕ) (p : ConcretePath) → Memᴰ p (readable_from w g n i) → Listed n i p
  unfolding readable_from
  is-from zero i p j = absurd (mathlib.Core.List.Memᴰ.not-nil j)
  is-from (suc n) i p j = by-test (may_read w g i) (λ t. here t (is-from n (i + 1) p) (rw t at j)) (λ f. later (is-from n (i + 1) p (rw f at j)))
    where
      later : Listed n (i + 1) p → Listed (suc n) i p
      later k = record { low = omega (arith, k.low); below = omega (arith, k.below); same = k.same; allowed = k.allowed }

      here : may_read w g i ≡ true → (Memᴰ p (readable_from w g n (i + 1)) → Listed n (i + 1) p) → Memᴰ p (place_at w i ∷ readable_from w g n (i + 1)) → Listed (suc n) i p
      here t rest (mathlib.Core.List.Memᴰ.head e) =
          let a : p.attribute ≡ i = ap (λ (q : ConcretePath). q.attribute) e in
          subst (Listed (suc n) i) (sym e) (record { low = omega arith; below = omega arith; same = refl; allowed = t })
      here t rest (mathlib.Core.List.Memᴰ.tail k) = later (rest k)

  pub readable-is : (p : ConcretePath) → Memᴰ p (readable_from w g (count_of_attributes w) 0) → Listed (count_of_attributes w) 0 p
  readable-is p j = is-from (count_of_attributes w) 0 p j

  -- and those that may be read are in the list
  has-from : (n i a : ℕ) → i ≤ a → a < n + i → may_read w g a ≡ true → Memᴰ (place_at w a) (readable_from w g n i)
  unfolding readable_from
  has-from zero i a l h t = absurd (omega arith)
  has-from (suc n) i a l h t =
      by-test (eqb i a) (λ e. let q : i ≡ a = eqb-true i a e in rw (ap (may_read w g) q, t) (mathlib.Core.List.Memᴰ.head (ap (place_at w) (sym q))))
      (λ e. let rest : Memᴰ (place_at w a) (readable_from w g n (i + 1)) = has-from n (i + 1) a (omega (arith, eqb-false i a e)) (omega arith) t in
      pick-elim (λ (z : List ConcretePath). Memᴰ (place_at w a) z) (may_read w g i) _ _ (λ _. mathlib.Core.List.Memᴰ.tail rest) (λ _. rest))

  pub readable-has : (a : ℕ) → a < count_of_attributes w → may_read w g a ≡ true → Memᴰ (place_at w a) (readable_from w g (count_of_attributes w) 0)
  readable-has a h t = has-from (count_of_attributes w) 0 a (omega arith) (omega arith) t
