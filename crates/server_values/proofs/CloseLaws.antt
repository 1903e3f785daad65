-- The close look at what is held is exact: the factory texts, nulls, then the rows of the quick test with every text taken for a changed one, then the shown texts.
use mathlib.Core.Path.{◌≡◌, refl, sym, ◌∙◌}
use mathlib.Core.Bool.{Bool, true, false, ◌&&◌}
use mathlib.Core.List.{List}
use Prim.Native.Nat.{ℕ, ◌+◌, ◌-◌, ◌*◌, ◌≤◌, ◌<◌, min}
use native.Mathlib.Omega.{arith}
use borrow.Author.Tests.{leb-true, le-leb, eqb-true, eq-eqb}
use lib.Dec.{eqb, leb}
use lib.ListN.{length, get_or, replicate, get_or-replicate}
use Rattle.base_bounds.specs.Bounds.{text_bytes_limit}
use Rattle.tlv_reader.specs.Octet.{pick}
use Rattle.node_kinds.specs.Stored.{held}
use Rattle.node_schema.specs.Layout.{text_limit, text_size}
use Rattle.node_schema.specs.Rows.{attribute_row, count_of_attributes, is_text, factory_start, factory_length}
use Rattle.node_schema.specs.Check.{every, rank, rank_right, all_ranks, ranks_right, count_of_texts}
use Rattle.node_schema.proofs.BoolLaws.{both, left, right, by-test, same}
use Rattle.node_schema.proofs.CheckLaws.{every-at, every-all, no_text}
use Rattle.node_schema.proofs.TextLaws.{count_past}
use Rattle.node_plan.specs.Check.{number_right, numbers_right, factory_right, texts_right}
use Rattle.server_values.specs.Values.{mark_at}
use Rattle.server_values.specs.Valid.{shown_at, held_right, all_shown, values_right}
use Rattle.server_values.specs.Quick.{near_at, null_at, quick_at, all_quick}
use Rattle.server_values.proofs.ValidLaws.{within_limits, number-row, text-first, text-within, text-right, held_of, right_at, edits-size, both_at, at_each, right-done, limits-at, word_none, text-here}

-- every text is taken for a changed one of no bytes
abbrev all : List ℕ
all = replicate text_limit 1

-- then nothing of what is shown is compared; its factory text lies in its page
near-all : (w defaults : List ℕ) (r : ℕ) → r < text_limit → factory_right defaults (factory_start w r) (factory_length w r) ≡ true → near_at w all (length defaults) r ≡ true
unfolding factory_right
near-all w defaults r l f =
    let e : get_or all r 0 ≡ 1 = get_or-replicate text_limit r 1 0 l in
    let n = factory_length w r in
    let low = factory_start w r in
    let a = leb-true n text_bytes_limit (left (leb n text_bytes_limit) _ f) in
    let b = leb-true (low + n) (length defaults) (left (leb (low + n) (length defaults)) _ (right (leb n text_bytes_limit) _ f)) in
    rw e (both _ _ (le-leb n (min (length defaults) text_bytes_limit) (omega (arith, a, b))) (le-leb low (length defaults - n) (omega (arith, a, b))))

factory-at : (w defaults : List ℕ) → texts_right w defaults ≡ true → (r : ℕ) → r < count_of_texts w → factory_right defaults (factory_start w r) (factory_length w r) ≡ true
unfolding texts_right
factory-at w defaults f r l = every-at (λ k. factory_right defaults (factory_start w k) (factory_length w k)) (count_of_texts w) f r l

module _ (w defaults edits words : List ℕ) (nulls : List Bool) (texts : List ℕ) (i : ℕ) (l : i < count_of_attributes w) where
  abbrev shown : Bool
  shown = shown_at w defaults edits i (get_or nulls i false) (mark_at w texts i)

  null-from : (b : Bool) → within_limits w i (get_or words i 0) b ≡ true → pick b (eqb (attribute_row w i).nullable 1 && eqb (get_or words i 0) 0) true ≡ true
  unfolding held
  null-from true h = h
  null-from false h = refl

  close-rank : quick_at w words nulls all (length defaults) i ≡ true → rank_right w i ≡ true
  close-rank q = by-test (is_text (attribute_row w i)) (λ t. rw t (left _ _ (rw t at q))) (no_text w i)

  close-both : null_at w words nulls i ≡ true → quick_at w words nulls all (length defaults) i ≡ true → shown ≡ true → both_at w defaults edits (held_of words nulls texts) i ≡ true
  close-both n q s =
      by-test (is_text (attribute_row w i))
      (λ t.
      let mark = mark_at w texts i in
      let z = eqb-true (get_or words i 0) 0 (left _ _ (right (eqb (attribute_row w i).first (rank w i)) _ (rw t at q))) in
      both _ _ (text-first w defaults edits i (get_or words i 0) (get_or nulls i false) mark t)
      (sym (text-right w defaults edits i (get_or words i 0) (get_or nulls i false) mark t (text-within w defaults edits i (get_or words i 0) (get_or nulls i false) mark t n z) z) ∙ (rw t at s)))
      (λ t. sym (number-row w defaults edits i (get_or words i 0) (get_or nulls i false) (mark_at w texts i) t) ∙ (rw t at q))

  module _ (m : count_of_texts w ≤ text_limit) (f : texts_right w defaults ≡ true) (r : rank_right w i ≡ true) (h : both_at w defaults edits (held_of words nulls texts) i ≡ true) where
    here : right_at w defaults edits (held_of words nulls texts) i ≡ true
    here = right (number_right (attribute_row w i)) _ h

    limits : within_limits w i (get_or words i 0) (get_or nulls i false) ≡ true
    limits = limits-at w defaults edits (held_of words nulls texts) i here

    open-null : null_at w words nulls i ≡ true
    open-null = null-from (get_or nulls i false) limits

    open-quick : quick_at w words nulls all (length defaults) i ≡ true
    open-quick =
        by-test (is_text (attribute_row w i))
        (λ t.
        let e = rw t at r in
        let k = count_past (λ j. is_text (attribute_row w j)) (count_of_attributes w) i l t in
        let inside : (attribute_row w i).first < count_of_texts w = omega (arith, eqb-true (attribute_row w i).first (rank w i) e, k) in
        rw t
        (both (eqb (attribute_row w i).first (rank w i)) _ e
        (both _ _ (eq-eqb _ _ (word_none w defaults edits (held_of words nulls texts) i t here)) (near-all w defaults (attribute_row w i).first (omega (arith, inside, m)) (factory-at w defaults f (attribute_row w i).first inside)))))
        (λ t. rw t (both (number_right (attribute_row w i)) (within_limits w i (get_or words i 0) (get_or nulls i false)) (left (number_right (attribute_row w i)) _ h) limits))

    open-shown : shown ≡ true
    open-shown = by-test (is_text (attribute_row w i)) (λ t. rw t (text-here w defaults edits (held_of words nulls texts) i t here)) (λ t. rw t)

module _ (w defaults edits words : List ℕ) (nulls : List Bool) (texts : List ℕ) where
  abbrev rows : Bool
  rows = every (null_at w words nulls) (count_of_attributes w) && (all_quick w words nulls all (length defaults) (length edits) && all_shown w defaults edits nulls texts)

  abbrev right-all : Bool
  right-all = ranks_right w && (numbers_right w && (texts_right w defaults && held_right w defaults edits words nulls texts))

  close-to : (texts_right w defaults && rows) ≡ true → right-all ≡ true
  unfolding values_right all_quick
  close-to g =
      let f = left (texts_right w defaults) _ g in
      let h = right (texts_right w defaults) rows g in
      let n = every-at (null_at w words nulls) (count_of_attributes w) (left _ _ h) in
      let t = right (every (null_at w words nulls) (count_of_attributes w)) _ h in
      let q = left (all_quick w words nulls all (length defaults) (length edits)) _ t in
      let row = every-at (quick_at w words nulls all (length defaults)) (count_of_attributes w) (left _ _ q) in
      let s = every-at (λ k. shown_at w defaults edits k (get_or nulls k false) (mark_at w texts k)) (count_of_attributes w) (right (all_quick w words nulls all (length defaults) (length edits)) _ t) in
      let counted = right (every (quick_at w words nulls all (length defaults)) (count_of_attributes w)) (leb (count_of_texts w) text_limit && eqb (length edits) (text_size * count_of_texts w)) q in
      let size = eqb-true (length edits) (text_size * count_of_texts w) (right (leb (count_of_texts w) text_limit) _ counted) in
      let k = sym (right-done w defaults edits (held_of words nulls texts) size (every-all (both_at w defaults edits (held_of words nulls texts)) (count_of_attributes w) (λ i l. close-both w defaults edits words nulls texts i l (n i l) (row i l) (s i l)))) in
      both (ranks_right w) _ (both _ _ (every-all (rank_right w) (count_of_attributes w) (λ i l. close-rank w defaults edits words nulls texts i l (row i l))) (left _ _ counted))
      (both (numbers_right w) _ (left (numbers_right w) _ k) (both (texts_right w defaults) _ f (right (numbers_right w) _ k)))

  close-from : right-all ≡ true → (texts_right w defaults && rows) ≡ true
  unfolding values_right all_quick
  close-from h =
      let ranks = left (ranks_right w) _ h in
      let r = every-at (rank_right w) (count_of_attributes w) (left _ _ ranks) in
      let m = leb-true (count_of_texts w) text_limit (right (all_ranks w (count_of_attributes w)) _ ranks) in
      let k = right (ranks_right w) _ h in
      let g = right (numbers_right w) _ k in
      let f = left (texts_right w defaults) _ g in
      let o = right (texts_right w defaults) _ g in
      let b = at_each w defaults edits (held_of words nulls texts) (both (numbers_right w) _ (left (numbers_right w) _ k) o) in
      let size = edits-size w defaults edits (held_of words nulls texts) o in
      both _ _ f
      (both _ _ (every-all (null_at w words nulls) (count_of_attributes w) (λ i l. open-null w defaults edits words nulls texts i l m f (r i l) (b i l)))
      (both _ _
      (both _ _ (every-all (quick_at w words nulls all (length defaults)) (count_of_attributes w) (λ i l. open-quick w defaults edits words nulls texts i l m f (r i l) (b i l))) (both _ _ (right (all_ranks w (count_of_attributes w)) _ ranks) (eq-eqb _ _ size)))
      (every-all (λ k. shown_at w defaults edits k (get_or nulls k false) (mark_at w texts k)) (count_of_attributes w) (λ i l. open-shown w defaults edits words nulls texts i l m f (r i l) (b i l)))))

  -- THE CLOSE LOOK IS EXACT
  pub close-right : (texts_right w defaults && rows) ≡ right-all
  close-right = same (texts_right w defaults && rows) right-all close-to close-from
