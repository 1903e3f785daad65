-- One step of reading decimal digits, from what the digit is.
use Rattle.std.specs.Prelude.{Some, None}
use mathlib.Core.Path.{◌≡◌}
use mathlib.Core.List.{List}
use Prim.Native.Nat.{ℕ, ◌+◌, ◌*◌, ◌-◌, ◌^◌, ◌<◌, ◌≤◌}
use native.Mathlib.Numerals.{add-one}
use borrow.Author.Tests.{lt-ltb, le-ltb, ne_eqb}
use lib.ListN.{length, drop, get_or}
use lib.Seq.{drop-cons, drop-length}
use Rattle.script_lines.specs.Numbers.{decimal_from, decimal_of}

module _ (w : List ℕ) (n i : ℕ) (h : i < length w) where
  pub digit-below : get_or w i 0 < 48 → decimal_from n (drop i w) ≡ None
  unfolding decimal_from
  digit-below b = rw (drop-cons w i 0 h) (simp (lt-ltb _ _ b))

  pub digit-above : 48 ≤ get_or w i 0 → 57 < get_or w i 0 → decimal_from n (drop i w) ≡ None
  unfolding decimal_from
  digit-above a b = rw (drop-cons w i 0 h) (simp (le-ltb _ _ a, lt-ltb _ _ b))

  pub too_much : 48 ≤ get_or w i 0 → get_or w i 0 ≤ 57 → 2 ^ 64 ≤ n * 10 + (get_or w i 0 - 48) → decimal_from n (drop i w) ≡ None
  unfolding decimal_from
  too_much a b o = rw (drop-cons w i 0 h) (simp (le-ltb _ _ a, le-ltb _ _ b, le-ltb _ _ o))

  pub one_more : 48 ≤ get_or w i 0 → get_or w i 0 ≤ 57 → n * 10 + (get_or w i 0 - 48) < 2 ^ 64 → decimal_from n (drop i w) ≡ decimal_from (n * 10 + (get_or w i 0 - 48)) (drop (i + 1) w)
  unfolding decimal_from
  one_more a b o = rw (drop-cons w i 0 h, add-one) (simp (le-ltb _ _ a, le-ltb _ _ b, lt-ltb _ _ o))

-- behind the last digit
pub no_more : (w : List ℕ) (n i : ℕ) → i ≡ length w → decimal_from n (drop i w) ≡ Some n
unfolding decimal_from
no_more w n i e = rw (e, drop-length)

-- what a word of one byte at least says
pub of-digits : (w : List ℕ) → (length w ≡ 0 → ⊥) → decimal_of w ≡ decimal_from 0 w
of-digits w h = rw (ne_eqb (length w) 0 h)
