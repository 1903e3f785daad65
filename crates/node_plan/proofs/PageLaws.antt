-- Laws of the two pages: a stored text is shown, and every other shown text stays as it was.
use mathlib.Core.Path.{◌≡◌, sym, ap, ◌∙◌}
use mathlib.Core.Bool.{false}
use mathlib.Core.List.{List, [], ◌++◌}
use Prim.Native.Nat.{ℕ, ◌+◌, ◌-◌, ◌≤◌, min}
use native.Mathlib.Omega.{arith}
use borrow.Author.Tests.{ltb-true, ltb-false, leb-true, leb-false, eq-eqb, ne_eqb}
use lib.Dec.{ltb, leb, eqb}
use lib.ListN.{length, take, drop, replicate, length-take, length-drop, length-append, length-replicate}
use lib.Seq.{take_all, take-nil, drop-nil, drop-length, drop-drop}
use Rattle.base_octets.specs.Store.{store}
use Rattle.base_octets.proofs.StoreLaws.{store-back, store-store, part-after, part-before}
use Rattle.node_schema.specs.Layout.{text_size}
use Rattle.node_schema.proofs.BoolLaws.{by-test}
use Rattle.node_plan.specs.Pages.{place, padded, shown_text}

-- ---- parts that a page does not have, or not whole

drop_past : (n : ℕ) (l : List ℕ) → length l ≤ n → drop n l ≡ []
drop_past n l h =
    let e : n ≡ length l + (n - length l) = omega arith in
    ap (λ (k : ℕ). drop k l) e ∙ sym (drop-drop (n - length l) (length l) l) ∙ ap (drop (n - length l)) (drop-length l) ∙ drop-nil (n - length l)

pub nothing-there : (n start : ℕ) (l : List ℕ) → length l ≤ start → take n (drop start l) ≡ []
nothing-there n start l h = ap (take n) (drop_past start l h) ∙ take-nil n

pub to_the_end : (n start : ℕ) (l : List ℕ) → length l - start ≤ n → take n (drop start l) ≡ take (length l - start) (drop start l)
to_the_end n start l h =
    take_all n (drop start l) (omega (arith, length-drop start l))
    ∙ sym (take_all (length l - start) (drop start l) (omega (arith, length-drop start l)))

-- whether it has one whole
pub part-whole : (n start : ℕ) (l : List ℕ) → leb n (length l - start) ≡ eqb (length (take n (drop start l))) n
part-whole n start l =
    let e : length (take n (drop start l)) ≡ min n (length l - start) = length-take n (drop start l) ∙ ap (min n) (length-drop start l) in
    by-test (leb n (length l - start)) (λ t. t ∙ sym (eq-eqb _ n (omega (arith, e, leb-true n _ t))))
    (λ t. t ∙ sym (ne_eqb _ n (λ q. omega (arith, e, q, leb-false n _ t))))

-- ---- a text in its place

pub padded-length : (text : List ℕ) → length text ≤ text_size → length (padded text) ≡ text_size
padded-length text l = length-append text (replicate (text_size - length text) 0) ∙ rw (length-replicate {A = ℕ} (text_size - length text) 0) (omega arith)

-- bytes and zeros behind them, as the code stores them
pub padded-stored : (edits : List ℕ) (rank : ℕ) (text : List ℕ) {at end : ℕ} {one two : List ℕ} → at ≡ place rank → one ≡ store edits at text → end ≡ at + length text → two ≡ store one end (replicate (at + text_size - end) 0) → two ≡ store edits (place rank) (padded text)
padded-stored edits rank text {at} {end} {one} {two} a b c d =
    let e : at + text_size - end ≡ text_size - length text = omega (arith, c) in
    d ∙ rw (e, c, b, a) (store-store edits (place rank) text (replicate (text_size - length text) 0))

module _ (defaults edits : List ℕ) (rank : ℕ) (text : List ℕ) where
  -- bytes stored behind a text leave it
  text-back : (rest : List ℕ) → place rank + length text ≤ length edits → take (length text) (drop (place rank) (store edits (place rank) (text ++ rest))) ≡ text
  text-back rest fits =
      ap (λ (e : List ℕ). take (length text) (drop (place rank) e)) (sym (store-store edits (place rank) text rest))
      ∙ part-before (store edits (place rank) text) (place rank + length text) rest (place rank) (length text) (omega arith)
      ∙ store-back edits (place rank) text fits

  -- a stored text is shown, with the mark of its length
  pub stored-shown : place rank + length text ≤ length edits → (start len : ℕ) → shown_text defaults (store edits (place rank) (padded text)) start len rank (length text + 1) ≡ text
  unfolding shown_text
  stored-shown fits start len =
      let c : eqb (length text + 1) 0 ≡ false = ne_eqb (length text + 1) 0 (λ q. omega (arith, q)) in
      let n : length text + 1 - 1 ≡ length text = omega arith in
      rw (c, n) (text-back (replicate (text_size - length text) 0) fits)

  pub part_stays : length text ≤ text_size → (other n : ℕ) → (other ≡ rank → ⊥) → n ≤ text_size → take n (drop (place other) (store edits (place rank) text)) ≡ take n (drop (place other) edits)
  part_stays size other n apart short =
      by-test (ltb other rank) (λ t. part-before edits (place rank) text (place other) n (omega (arith, ltb-true other rank t)))
      (λ t. part-after edits (place rank) text (place other) n (omega (arith, ltb-false other rank t, apart)))

  pub others-stay : length text ≤ text_size → (start len other mark : ℕ) → (other ≡ rank → ⊥) → mark ≤ text_size + 1 → shown_text defaults (store edits (place rank) text) start len other mark ≡ shown_text defaults edits start len other mark
  unfolding shown_text
  others-stay size start len other mark apart short =
      by-test (eqb mark 0) (λ t. rw t) (λ t. rw t (part_stays size other (mark - 1) apart (omega (arith, short))))
