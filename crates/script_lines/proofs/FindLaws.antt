-- One step of a search for a byte, from what the byte is.
use mathlib.Core.Path.{◌≡◌, refl}
use mathlib.Core.List.{List, ◌∷◌}
use Prim.Native.Nat.{ℕ, suc, ◌+◌, ◌-◌, ◌<◌, ◌≤◌}
use native.Mathlib.Numerals.{add-one}
use native.Mathlib.Omega.{arith}
use borrow.Author.Tests.{eq-eqb, ne_eqb}
use lib.ListN.{length, get_or}
use lib.Seq.{drop-cons}
use Rattle.script_lines.specs.Find.{index_of, slice}

module _ (s : List ℕ) (i end b : ℕ) (h : i < end) (k : end ≤ length s) where
  slice-cons : slice i end s ≡ get_or s i 0 ∷ slice (i + 1) end s
  unfolding slice
  slice-cons =
      let e : end - i ≡ suc (end - (i + 1)) = omega arith in
      let l : i < length s = omega arith in
      rw (e, drop-cons s i 0 l, add-one) refl

  pub found-here : get_or s i 0 ≡ b → i + index_of b (slice i end s) ≡ i
  unfolding index_of
  found-here e = rw (slice-cons, eq-eqb _ _ e) (omega arith)

  pub found-later : (get_or s i 0 ≡ b → ⊥) → i + index_of b (slice i end s) ≡ i + 1 + index_of b (slice (i + 1) end s)
  unfolding index_of
  found-later e = rw (slice-cons, ne_eqb _ _ e) (omega arith)

pub found-nowhere : (s : List ℕ) (i end b : ℕ) → i ≡ end → i + index_of b (slice i end s) ≡ i
unfolding index_of slice
found-nowhere s i end b e = let z : end - i ≡ 0 = omega arith in rw z (omega arith)
