-- A page of edits whose places hold valid UTF-8 is valid as a whole, and stays so: a stored text fills its place.
use mathlib.Core.Path.{◌≡◌, refl, sym, ap, ◌∙◌}
use mathlib.Core.Bool.{true}
use mathlib.Core.List.{List}
use Prim.Native.Nat.{ℕ, zero, suc, ◌+◌, ◌-◌, ◌*◌, ◌≤◌}
use native.Mathlib.Omega.{arith}
use borrow.Author.Tests.{eqb-true, eqb-false}
use lib.Dec.{eqb}
use lib.ListN.{length, take, drop, replicate}
use lib.Seq.{take-add, take_all}
use Rattle.base_octets.specs.Store.{store}
use Rattle.base_octets.proofs.StoreLaws.{store-back}
use Rattle.base_utf8.specs.WellFormed.{completes, well_formed}
use Rattle.base_utf8.specs.Bytewise.{all_below}
use Rattle.base_utf8.proofs.Below.{ascii-formed, below-part}
use Rattle.base_utf8.proofs.Joins.{joins}
use Rattle.node_schema.specs.Layout.{text_size}
use Rattle.node_schema.proofs.BoolLaws.{by-test}
use Rattle.node_plan.specs.Pages.{place, padded, placed, PlacesFormed}
use Rattle.node_plan.proofs.PageLaws.{padded-length, part_stays}

-- ---- zeros are valid

zeros-below : (n : ℕ) → all_below 128 (replicate n 0) ≡ true
unfolding all_below
zeros-below zero = refl
zeros-below (suc n) = zeros-below n

zeros-formed : (n : ℕ) → well_formed (replicate n 0) ≡ true
zeros-formed n = ascii-formed (replicate n 0) (zeros-below n)

-- so is each place of a page of zeros
pub zeros-placed : (size n : ℕ) → PlacesFormed (replicate size 0) n
zeros-placed size n r l = ascii-formed (placed (replicate size 0) r) (below-part 128 text_size (place r) (replicate size 0) (zeros-below size))

-- ---- storing a valid text

module _ (edits : List ℕ) (rank : ℕ) (text : List ℕ) (short : length text ≤ text_size) (valid : well_formed text ≡ true) (fits : place rank + text_size ≤ length edits) where
  own-place : placed (store edits (place rank) (padded text)) rank ≡ padded text
  own-place =
      let n = padded-length text short in
      ap (λ (k : ℕ). take k (drop (place rank) (store edits (place rank) (padded text)))) (sym n) ∙ store-back edits (place rank) (padded text) (omega (arith, n))

  pub stored-placed : (n : ℕ) → PlacesFormed edits n → PlacesFormed (store edits (place rank) (padded text)) n
  stored-placed n f r l =
      by-test (eqb r rank)
      (λ t. rw (eqb-true r rank t) (rw own-place (joins text (replicate (text_size - length text) 0) valid (zeros-formed (text_size - length text)))))
      (λ t. rw (part_stays edits edits rank (padded text) (omega (arith, padded-length text short)) r text_size (eqb-false r rank t) (omega arith)) (f r l))

-- ---- the page as a whole

formed-upto : (edits : List ℕ) (n k : ℕ) → k ≤ n → PlacesFormed edits n → well_formed (take (text_size * k) edits) ≡ true
unfolding well_formed completes
formed-upto edits n zero l f = refl
formed-upto edits n (suc k) l f =
    let e : text_size * suc k ≡ text_size * k + text_size = omega arith in
    rw e (rw (take-add (text_size * k) text_size edits) (joins (take (text_size * k) edits) (placed edits k) (formed-upto edits n k (omega arith) f) (f k (omega arith))))

pub page-formed : (edits : List ℕ) (n : ℕ) → length edits ≡ text_size * n → PlacesFormed edits n → well_formed edits ≡ true
page-formed edits n size f = ap well_formed (sym (take_all (text_size * n) edits (omega (arith, size)))) ∙ formed-upto edits n n (omega arith) f
