-- Words that rise, judged all at once by the OR of the words and the AND of the differences between them.
use Rattle.std.proofs.Common.{◌≡◌, ℕ, zero, suc, ◌+◌, ◌-◌, ◌*◌, ◌%◌, ◌^◌, ◌<◌, ◌≤◌, Bool, true, ◌&&◌, ltb, leb, List, sym, ap, ◌∙◌, ap₂, arith, below_more, ltb-false, ltb-true, lt-ltb, le-leb, leb-true}
use borrow.Author.Tests.{lt-leb}
use lib.Bits.{bit_and, bit_or, or_lt, or_comm, or_add_and, and_le_l, and_le_r, and_block}
use Rattle.node_schema.specs.Rows.{word}
use Rattle.node_schema.specs.Check.{every, rises}
use Rattle.node_schema.proofs.BoolLaws.{both, left, right, same, by-test, in-turn}
use Rattle.node_schema.proofs.CheckLaws.{every-next, every-at, every-all, rises-below, rises-order, rises-all}

-- an OR is below a power of two exactly if both are
pub or_left : (a b : ℕ) → a ≤ bit_or a b
or_left a b = omega (arith, or_add_and a b, and_le_r a b)

pub or-under : (k a b : ℕ) → ltb (bit_or a b) (2 ^ k) ≡ (ltb a (2 ^ k) && ltb b (2 ^ k))
or-under k a b =
    same _ _
    (λ h. let l = ltb-true (bit_or a b) (2 ^ k) h in both _ _ (lt-ltb a (2 ^ k) (omega (arith, or_left a b))) (lt-ltb b (2 ^ k) (omega (arith, or_left b a, or_comm a b))))
    (λ h. lt-ltb _ _ (or_lt k a b (ltb-true _ _ (left _ _ h)) (ltb-true b (2 ^ k) (right (ltb a (2 ^ k)) _ h))))

-- of two numbers of 64 bits an AND has the top bit exactly if both have it
top_bit : (a : ℕ) → a < 2 ^ 64 → 2 ^ 63 ≤ a → a ≡ 1 * 2 ^ 63 + (a - 2 ^ 63)
top_bit a l m = omega arith

and-top : (a b : ℕ) → a < 2 ^ 64 → b < 2 ^ 64 → 2 ^ 63 ≤ a → 2 ^ 63 ≤ b → 2 ^ 63 ≤ bit_and a b
and-top a b l m u v =
    let e : bit_and a b ≡ 1 * 2 ^ 63 + bit_and (a - 2 ^ 63) (b - 2 ^ 63) = ap₂ bit_and (top_bit a l u) (top_bit b m v) ∙ and_block 63 1 1 (a - 2 ^ 63) (b - 2 ^ 63) (omega arith) (omega arith) in
    omega (arith, e)

and-over : (a b : ℕ) → a < 2 ^ 64 → b < 2 ^ 64 → leb (2 ^ 63) (bit_and a b) ≡ (leb (2 ^ 63) a && leb (2 ^ 63) b)
and-over a b l m =
    same _ _
    (λ h. let u = leb-true (2 ^ 63) (bit_and a b) h in both _ _ (le-leb (2 ^ 63) a (omega (arith, and_le_l a b))) (le-leb (2 ^ 63) b (omega (arith, and_le_r a b))))
    (λ h. le-leb _ _ (and-top a b l m (leb-true _ _ (left _ _ h)) (leb-true (2 ^ 63) b (right (leb (2 ^ 63) a) _ h))))

-- the difference of two words, as it wraps at 64 bits
abbrev pub gap : ℕ → ℕ → ℕ
gap x y = (x + (2 ^ 64 - y % 2 ^ 64)) % 2 ^ 64

pub gap_is : (r x y : ℕ) → r < 2 ^ 64 → (r + y) % 2 ^ 64 ≡ x → r ≡ gap x y
gap_is r x y l e = omega arith

gap_below : (x y : ℕ) → x < 2 ^ 62 → y < 2 ^ 62 → leb (2 ^ 63) (gap x y) ≡ ltb x y
gap_below x y l m =
    by-test (ltb x y) (λ t. le-leb (2 ^ 63) (gap x y) (omega (arith, ltb-true x y t)) ∙ sym t) (λ t. lt-leb (2 ^ 63) (gap x y) (omega (arith, ltb-false x y t)) ∙ sym t)

module _ (w : List ℕ) (from : ℕ) where
  -- word k is below ROOM, and below the next one
  abbrev pub step : ℕ → Bool
  step k = ltb (word w from k) (2 ^ 62) && leb (2 ^ 63) (gap (word w from k) (word w from (k + 1)))

  -- a turn of the loop
  pub rise-turn : (words gaps i r : ℕ) → gaps < 2 ^ 64 → (ltb words (2 ^ 62) && leb (2 ^ 63) gaps) ≡ every step i → r ≡ gap (word w from i) (word w from (i + 1)) → (ltb (bit_or words (word w from i)) (2 ^ 62) && leb (2 ^ 63) (bit_and gaps r)) ≡ every step (i + 1)
  rise-turn words gaps i r l h e =
      let d = gap (word w from i) (word w from (i + 1)) in
      ap₂ ◌&&◌ (or-under 62 words (word w from i)) (ap (λ (k : ℕ). leb (2 ^ 63) (bit_and gaps k)) e ∙ and-over gaps d l (omega arith))
      ∙ in-turn (ltb words (2 ^ 62)) (ltb (word w from i) (2 ^ 62)) (leb (2 ^ 63) gaps) (leb (2 ^ 63) d)
      ∙ ap (λ (b : Bool). b && step i) h
      ∙ sym (every-next step i)

  climb : (n : ℕ) → ((k : ℕ) → k + 1 < n → word w from k < word w from (k + 1)) → (j : ℕ) → j < n → (i : ℕ) → i < j → word w from i < word w from j
  climb n adj zero l i u = absurd (omega arith)
  climb n adj (suc j) l i u =
      let e : suc j ≡ j + 1 = omega arith in
      let top : word w from j < word w from (j + 1) = adj j (omega arith) in
      below_more (λ (k : ℕ). word w from k < word w from (suc j)) j
      (λ k v. rw e (omega (arith, climb n adj j (omega arith) k v, top))) (rw e top) i (omega arith)

  module _ (last limit : ℕ) (room : limit ≤ 2 ^ 62) where
    rise-from : (every step last && ltb (word w from last) limit) ≡ true → rises w from (last + 1) limit ≡ true
    rise-from h =
        let top : word w from last < limit = ltb-true _ _ (right (every step last) _ h) in
        let at = every-at step last (left _ _ h) in
        let small : (k : ℕ) → k ≤ last → word w from k < 2 ^ 62 = λ k l. below_more (λ (j : ℕ). word w from j < 2 ^ 62) last (λ j u. ltb-true _ _ (left _ _ (at j u))) (omega arith) k (omega arith) in
        let adj : (k : ℕ) → k + 1 < last + 1 → word w from k < word w from (k + 1) = λ k l. ltb-true _ _ (sym (gap_below (word w from k) (word w from (k + 1)) (small k (omega arith)) (small (k + 1) (omega arith))) ∙ right (ltb (word w from k) (2 ^ 62)) _ (at k (omega arith))) in
        rises-all w from (last + 1) limit
        (λ i l. below_more (λ (k : ℕ). word w from k < limit) last (λ k u. omega (arith, climb (last + 1) adj last (omega arith) k u)) top i (omega arith))
        (climb (last + 1) adj)

    rise-to : rises w from (last + 1) limit ≡ true → (every step last && ltb (word w from last) limit) ≡ true
    rise-to h =
        let under = rises-below w from (last + 1) limit h in
        both _ _
        (every-all step last
        (λ k l. both _ _ (lt-ltb (word w from k) (2 ^ 62) (omega (arith, under k (omega arith))))
        (gap_below (word w from k) (word w from (k + 1)) (omega (arith, under k (omega arith))) (omega (arith, under (k + 1) (omega arith)))
        ∙ lt-ltb _ _ (rises-order w from (last + 1) limit h (k + 1) (omega arith) k (omega arith)))))
        (lt-ltb _ _ (under last (omega arith)))

    pub rise-whole : (every step last && ltb (word w from last) limit) ≡ rises w from (last + 1) limit
    rise-whole = same _ _ rise-from rise-to
