-- Joining well-formed texts.
use mathlib.Core.Path.{◌≡◌, refl}
use mathlib.Core.Bool.{true}
use mathlib.Core.List.{List, [], ◌∷◌, ◌++◌}
use Prim.Native.Nat.{ℕ}
use native.Mathlib.Omega.{arith}
use Rattle.base_utf8.specs.WellFormed.{Range, within, trailing, completes, well_formed}
use Rattle.base_utf8.proofs.Lines.{and_l, and_r}

-- where the first is well formed, the second decides
after-whole : (rs : List Range) (a b : List ℕ) → completes rs a ≡ true → completes rs (a ++ b) ≡ completes [] b
unfolding completes
after-whole [] [] b h = refl
after-whole [] (x ∷ a) b h = after-whole (trailing x) a b h
after-whole (r ∷ rs) [] b h = let z : ◌≡◌ {A = ℕ} 0 1 = cc in absurd (omega arith)
after-whole (r ∷ rs) (x ∷ a) b h =
    rw (and_l (within r x) (completes rs a) h) (after-whole rs a b (and_r (within r x) (completes rs a) h))

-- WELL-FORMED TEXTS JOINED are well formed
pub joins : (a b : List ℕ) → well_formed a ≡ true → well_formed b ≡ true → well_formed (a ++ b) ≡ true
unfolding well_formed
joins a b ha hb = rw (after-whole [] a b ha) hb
