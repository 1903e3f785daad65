-- Laws of the check's loops: every, count, rises, and the rows of a column.
use Rattle.std.proofs.Common.{◌≡◌, ℕ, zero, suc, ◌+◌, ◌-◌, ◌<◌, ◌≤◌, Bool, true, false, not, ◌&&◌, eqb, ltb, List, [], ◌∷◌, sym, refl, ap, ◌∙◌, add-one, arith, below_more, ltb-true, lt-ltb, eq-eqb, ne_eqb}
use mathlib.Core.Bool.{false≢true}
use Rattle.node_schema.specs.Rows.{word, rows_from, attribute_row, is_text}
use Rattle.node_schema.specs.Check.{every, count, one, rises, changes, rank, rank_right}
use Rattle.node_schema.proofs.BoolLaws.{both, left, right, by-test}

module _ (p : ℕ → Bool) where
  pub every-next : (i : ℕ) → every p (i + 1) ≡ (every p i && p i)
  unfolding every
  every-next i = rw add-one

  pub every_more : (i : ℕ) → every p i ≡ true → p i ≡ true → every p (i + 1) ≡ true
  every_more i h t = every-next i ∙ both (every p i) (p i) h t

  pub every-at : (n : ℕ) → every p n ≡ true → (i : ℕ) → i < n → p i ≡ true
  unfolding every
  every-at zero h i l = absurd (omega arith)
  every-at (suc n) h i l =
      below_more (λ (k : ℕ). p k ≡ true) n (every-at n (left (every p n) (p n) h)) (right (every p n) (p n) h) i (omega arith)

  pub every-all : (n : ℕ) → ((i : ℕ) → i < n → p i ≡ true) → every p n ≡ true
  unfolding every
  every-all zero f = refl
  every-all (suc n) f = both (every p n) (p n) (every-all n (λ i l. f i (omega arith))) (f n (omega arith))

  -- one that fails settles it
  pub every-fails : (n i : ℕ) → i < n → p i ≡ false → false ≡ every p n
  every-fails n i l t =
      by-test (every p n) (λ h. absurd (false≢true (sym t ∙ every-at n h i l))) sym

  -- all were passed
  pub every-done : (n i : ℕ) → i ≤ n → n ≤ i → every p i ≡ true → true ≡ every p n
  every-done n i l u h = let q : n ≡ i = omega arith in rw q (sym h)

  pub count-more : (i : ℕ) → count p (i + 1) ≡ count p i + one (p i)
  unfolding count
  count-more i = rw add-one

module _ (w : List ℕ) (from : ℕ) where
  pub rises-below : (n limit : ℕ) → rises w from n limit ≡ true → (i : ℕ) → i < n → word w from i < limit
  unfolding rises
  rises-below zero limit h i l = absurd (omega arith)
  rises-below (suc n) limit h i l =
      let top : word w from n < limit = ltb-true _ _ (left _ _ h) in
      let rest : rises w from n (word w from n) ≡ true = right (ltb (word w from n) limit) _ h in
      below_more (λ (k : ℕ). word w from k < limit) n
      (λ k lk. let b = rises-below n (word w from n) rest k lk in omega arith) top i (omega arith)

  pub rises-order : (n limit : ℕ) → rises w from n limit ≡ true → (j : ℕ) → j < n → (i : ℕ) → i < j → word w from i < word w from j
  unfolding rises
  rises-order zero limit h j l = absurd (omega arith)
  rises-order (suc n) limit h j l =
      let rest : rises w from n (word w from n) ≡ true = right (ltb (word w from n) limit) _ h in
      below_more (λ (k : ℕ). (i : ℕ) → i < k → word w from i < word w from k) n
      (rises-order n (word w from n) rest) (rises-below n (word w from n) rest) j (omega arith)

  pub rises-all : (n limit : ℕ) → ((i : ℕ) → i < n → word w from i < limit) → ((j : ℕ) → j < n → (i : ℕ) → i < j → word w from i < word w from j) → rises w from n limit ≡ true
  unfolding rises
  rises-all zero limit f g = refl
  rises-all (suc n) limit f g =
      both _ _ (lt-ltb _ _ (f n (omega arith)))
      (rises-all n (word w from n) (λ i l. g n (omega arith) i l) (λ j l. g j (omega arith)))

-- the rows from a place on are its row and those after it
pub rows_next : {A : Type 0} (f : ℕ → A) (n i : ℕ) → i < n → rows_from f (n - i) i ≡ (f i ∷ rows_from f (n - (i + 1)) (i + 1))
unfolding rows_from
rows_next f n i h =
    let q : n - i ≡ suc (n - (i + 1)) = omega arith in
    rw (q, add-one)

pub rows-begin : {A : Type 0} (f : ℕ → A) (n : ℕ) → rows_from f n 0 ≡ rows_from f (n - 0) 0
rows-begin f n = ap (λ (m : ℕ). rows_from f m 0) (omega arith)

pub rows-done : {A : Type 0} (f : ℕ → A) (n i : ℕ) → n ≤ i → rows_from f (n - i) i ≡ []
unfolding rows_from
rows-done f n i h = let q : n - i ≡ 0 = omega arith in rw q

-- a turn of the loop that counts the changes
pub changes-next : (last : ℕ) (f : ℕ → ℕ) (n i : ℕ) → i < n → changes last (rows_from f (n - i) i) ≡ one (not (eqb (f i) last)) + changes (f i) (rows_from f (n - (i + 1)) (i + 1))
unfolding changes
changes-next last f n i h = rw (rows_next f n i h)

module _ (f : ℕ → ℕ) (n i last : ℕ) (below : i < n) where
  pub changes-same : f i ≡ last → changes last (rows_from f (n - i) i) ≡ changes last (rows_from f (n - (i + 1)) (i + 1))
  changes-same e =
      let t : eqb (f i) last ≡ true = eq-eqb _ _ e in
      changes-next last f n i below ∙ rw (t, e) (omega arith)

  pub changes-new : (f i ≡ last → ⊥) → changes last (rows_from f (n - i) i) ≡ 1 + changes (f i) (rows_from f (n - (i + 1)) (i + 1))
  changes-new e =
      let t : eqb (f i) last ≡ false = ne_eqb _ _ e in
      changes-next last f n i below ∙ rw t

-- a turn of the loop over the ranks, with k the texts so far
module _ (w : List ℕ) (i k : ℕ) (so_far : k ≡ rank w i) where
  pub rank-fails : is_text (attribute_row w i) ≡ true → ((attribute_row w i).first ≡ k → ⊥) → rank_right w i ≡ false
  rank-fails t e = rw t (ne_eqb _ _ (λ q. e (q ∙ sym so_far)))

  pub rank-holds : is_text (attribute_row w i) ≡ true → (attribute_row w i).first ≡ k → rank_right w i ≡ true
  rank-holds t e = rw t (eq-eqb _ _ (e ∙ so_far))

  pub rank-more : is_text (attribute_row w i) ≡ true → k + 1 ≡ rank w (i + 1)
  rank-more t = sym (count-more (λ j. is_text (attribute_row w j)) i ∙ rw (t, ← so_far))

  pub rank_same : is_text (attribute_row w i) ≡ false → k ≡ rank w (i + 1)
  rank_same t = sym (count-more (λ j. is_text (attribute_row w j)) i ∙ rw (t, ← so_far) (omega arith))

pub no_text : (w : List ℕ) (i : ℕ) → is_text (attribute_row w i) ≡ false → rank_right w i ≡ true
no_text w i t = rw t

pub count-bound : (p : ℕ → Bool) (n : ℕ) → count p n ≤ n
unfolding count
count-bound p zero = omega arith
count-bound p (suc n) =
    let h = count-bound p n in
    by-test (p n) (λ t. rw t (omega arith)) (λ t. rw t (omega arith))
