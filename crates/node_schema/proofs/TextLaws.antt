-- Texts have places of their own in the page of edits.
use Rattle.std.proofs.Common.{◌≡◌, ℕ, zero, suc, ◌<◌, Bool, true, false, ltb, List, sym, refl, ap, ◌∙◌, arith, ltb-false, ltb-true, eqb-true}
use Rattle.node_schema.specs.Rows.{attribute_row, count_of_attributes, is_text}
use Rattle.node_schema.specs.Check.{one, count, rank, count_of_texts}
use Rattle.node_schema.specs.Rules.{Rules}
use Rattle.node_schema.proofs.RulesLaws.{from-rules}
use Rattle.node_schema.proofs.PathLaws.{apart}

-- one at which p holds counts for all after it
pub count_past : (p : ℕ → Bool) (n i : ℕ) → i < n → p i ≡ true → count p i < count p n
unfolding count
count_past p zero i l t = absurd (omega arith)
count_past p (suc n) i l t =
    apart i n (λ m. omega (arith, count_past p n i m t)) (λ m. absurd (omega arith))
    (λ e. let q : p n ≡ true = ap p (sym e) ∙ t in rw (e, q) (omega arith))

-- each number below the count is that of the places before one at which p holds
pub of-rank : (p : ℕ → Bool) (n r : ℕ) → r < count p n → (i : ℕ) × (i < n) × (p i ≡ true) × (count p i ≡ r)
unfolding count
of-rank p zero r l = absurd (omega arith)
of-rank p (suc n) r l = go (λ k. of-rank p n r k) (p n) refl (ltb r (count p n)) refl
  where
    go : (r < count p n → (i : ℕ) × (i < n) × (p i ≡ true) × (count p i ≡ r)) → (b : Bool) → p n ≡ b → (c : Bool) → ltb r (count p n) ≡ c → (i : ℕ) × (i < suc n) × (p i ≡ true) × (count p i ≡ r)
    go before b t true q = let (i, k, e, m) = before (ltb-true r (count p n) q) in (i, omega arith, e, m)
    go before true t false q = (n, omega arith, t, omega (arith, l, ltb-false r (count p n) q, ap one t))
    go before false t false q = absurd (omega (arith, l, ltb-false r (count p n) q, ap one t))

module _ (w : List ℕ) (rules : Rules w) where
  -- the first word of a text is its rank
  pub text-rank : (i : ℕ) → i < count_of_attributes w → is_text (attribute_row w i) ≡ true → (attribute_row w i).first ≡ rank w i
  text-rank i l t = eqb-true _ _ (rw t at ((from-rules w rules).ranks i l))

  -- its place is inside the page
  pub text-inside : (i : ℕ) → i < count_of_attributes w → is_text (attribute_row w i) ≡ true → (attribute_row w i).first < count_of_texts w
  text-inside i l t = rw (text-rank i l t) (count_past (λ k. is_text (attribute_row w k)) (count_of_attributes w) i l t)

  -- no two texts have one place
  pub texts-apart : (i j : ℕ) → i < j → j < count_of_attributes w → is_text (attribute_row w i) ≡ true → is_text (attribute_row w j) ≡ true → (attribute_row w i).first < (attribute_row w j).first
  texts-apart i j l u t s =
      omega (arith, text-rank i (omega arith) t, text-rank j u s, count_past (λ k. is_text (attribute_row w k)) j i l t)
