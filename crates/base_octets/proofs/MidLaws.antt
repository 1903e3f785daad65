-- A part of a buffer that is written as a whole, as by `fill`, is bytes stored.
use Rattle.std.proofs.lemmas.Slice.{put_mid-paste}
use borrow.Rule.Slice.PartMut.{put_mid}
use mathlib.Core.Path.{◌≡◌, refl, sym, ap, ◌∙◌}
use mathlib.Core.List.{List, [], ◌∷◌, ◌++◌}
use Prim.Native.Nat.{ℕ, suc, ◌+◌, ◌≤◌}
use native.Mathlib.Omega.{arith}
use lib.ListN.{length, take, drop, set}
use lib.Seq.{sets, sets-eq, take_all}
use Rattle.base_octets.specs.Store.{store}

store-sets : (l : List ℕ) (at : ℕ) (bs : List ℕ) → store l at bs ≡ sets l at bs
unfolding store
store-sets l at [] = refl
store-sets l at (b ∷ bs) = store-sets (set l at b) (suc at) bs

pub store-mid : (l : List ℕ) (at k : ℕ) (bs new : List ℕ) → at + k ≤ length l → length bs ≡ k → new ≡ bs → put_mid at k l new ≡ store l at bs
store-mid l at k bs new fits n e =
    let h : at + length bs ≤ length l = omega (arith, n) in
    put_mid-paste at k l new bs k e refl (sym n)
    ∙ rw (take_all k bs (omega (arith, n)))
    (ap (λ (m : ℕ). take at l ++ bs ++ drop (at + m) l) (sym n) ∙ sym (store-sets l at bs ∙ sets-eq bs l at h))
