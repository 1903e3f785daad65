-- The rest of a list from a place on, as a part of a slice that goes to its end.
use mathlib.Core.Path.{◌≡◌, ap, ◌∙◌}
use mathlib.Core.List.{List, ◌++◌, append-nil}
use Prim.Native.Nat.{ℕ, ◌-◌}
use native.Mathlib.Omega.{arith}
use lib.ListN.{length, take, drop, length-drop, drop_of_length-le}
use lib.Seq.{take_all}
use borrow.Rule.Slice.PartMut.{put_mid}

pub rest_part : (l : List ℕ) (a : ℕ) → take (length l - a) (drop a l) ≡ drop a l
rest_part l a = take_all (length l - a) (drop a l) (omega (arith, length-drop a l))

-- and such a part put back
pub rest_put : (l ys : List ℕ) (a : ℕ) → put_mid a (length l - a) l ys ≡ take a l ++ ys
rest_put l ys a = ap (λ (r : List ℕ). take a l ++ r) (ap (λ (r : List ℕ). ys ++ r) (drop_of_length-le (drop a l) {i = length l - a} (omega (arith, length-drop a l))) ∙ append-nil ys)
