-- Laws of bytes below a bound: the greatest byte decides, and bytes below 128 are well formed.
use mathlib.Core.Path.{◌≡◌, refl, sym, subst, ◌∙◌}
use mathlib.Core.Bool.{Bool, true, ◌&&◌}
use mathlib.Core.List.{List, [], ◌∷◌}
use Prim.Native.Nat.{max, ℕ, zero, suc, ◌+◌, ◌≤◌, ◌<◌}
use native.Mathlib.Numerals.{add-one}
use native.Mathlib.Omega.{arith}
use borrow.Author.Tests.{ltb-true, lt-ltb, le-ltb}
use lib.Dec.{ltb}
use lib.ListN.{length, get_or, take, drop, drop_of_length-le}
use lib.Seq.{drop-cons}
use Rattle.base_utf8.specs.WellFormed.{table, completes, well_formed}
use Rattle.base_utf8.specs.Bytewise.{all_below, Greatest}
use Rattle.base_utf8.proofs.Lines.{split, and_l, and_r, and-false, and-true, line}

-- ALL BYTES BELOW 128: well formed
pub ascii-formed : (s : List ℕ) → all_below 128 s ≡ true → well_formed s ≡ true
unfolding all_below well_formed completes table
ascii-formed [] h = refl
ascii-formed (a ∷ s) h =
    let l = ltb-true a 128 (and_l (ltb a 128) (all_below 128 s) h) in
    subst (λ rs. completes rs s ≡ true) (sym (line 0 a refl (omega arith) (omega arith))) (ascii-formed s (and_r (ltb a 128) (all_below 128 s) h))

-- below a bound, below a higher one
pub raised : (k l : ℕ) → k ≤ l → (s : List ℕ) → all_below k s ≡ true → all_below l s ≡ true
unfolding all_below
raised k l h [] b = refl
raised k l h (a ∷ s) b =
    let x = ltb-true a k (and_l (ltb a k) (all_below k s) b) in
    rw (lt-ltb a l (omega arith)) (raised k l h s (and_r (ltb a k) (all_below k s) b))

-- all bytes below a bound: so are those of each part
below_rest : (k n : ℕ) (s : List ℕ) → all_below k s ≡ true → all_below k (drop n s) ≡ true
unfolding all_below
below_rest k zero s b = b
below_rest k (suc n) [] b = refl
below_rest k (suc n) (a ∷ s) b = below_rest k n s (and_r (ltb a k) (all_below k s) b)

below-first : (k n : ℕ) (s : List ℕ) → all_below k s ≡ true → all_below k (take n s) ≡ true
unfolding all_below
below-first k zero s b = refl
below-first k (suc n) [] b = refl
below-first k (suc n) (a ∷ s) b =
    rw (and_l (ltb a k) (all_below k s) b) (below-first k n s (and_r (ltb a k) (all_below k s) b))

pub below-part : (k n start : ℕ) (s : List ℕ) → all_below k s ≡ true → all_below k (take n (drop start s)) ≡ true
below-part k n start s b = below-first k n (drop start s) (below_rest k start s b)

-- the greater of two bytes decides for both
greater : (k m b : ℕ) (x : Bool) → (ltb m k && (ltb b k && x)) ≡ (ltb (max m b) k && x)
greater k m b x = split m k
    (λ l. split b k (λ n. rw (lt-ltb m k l, lt-ltb b k n, lt-ltb (max m b) k (omega arith)) refl) (λ n. rw (lt-ltb m k l, le-ltb b k n, le-ltb (max m b) k (omega arith)) refl))
    (λ l. rw (le-ltb m k l, le-ltb (max m b) k (omega arith)) refl)

-- the loop: m is the greatest of the bytes before i
abbrev pub SoFar : List ℕ → ℕ → ℕ → Type 0
SoFar s m i = (k : ℕ) → 0 < k → all_below k s ≡ (ltb m k && all_below k (drop i s))

pub none_yet_lem : (s : List ℕ) → SoFar s 0 0
none_yet_lem s k h = rw (lt-ltb 0 k h)

module _ (s : List ℕ) (m i : ℕ) (inv : SoFar s m i) where
  one_more : i < length s → (k : ℕ) → 0 < k → all_below k s ≡ (ltb m k && (ltb (get_or s i 0) k && all_below k (drop (i + 1) s)))
  unfolding all_below
  one_more h k p = inv k p ∙ rw (drop-cons s i 0, add-one)

  pub wider : i < length s → SoFar s (max m (get_or s i 0)) (i + 1)
  wider h k p = one_more h k p ∙ greater k m (get_or s i 0) (all_below k (drop (i + 1) s))

  pub decides : length s ≤ i → Greatest m s
  unfolding all_below
  decides h k p = sym (inv k p ∙ rw (drop_of_length-le s h) (and-true (ltb m k)))
