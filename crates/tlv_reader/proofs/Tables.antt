-- The widths of tags and numbers as the code finds them, by one computed test of each table.
use mathlib.Core.Path.{◌≡◌, refl, ap}
use mathlib.Core.Bool.{Bool, true, false}
use mathlib.Core.List.{List, [], ◌∷◌}
use Prim.Native.Nat.{ℕ, zero, suc, ◌+◌, ◌<◌, ◌/◌, ◌%◌}
use native.Mathlib.Omega.{arith}
use borrow.Author.Tests.{eqb-true}
use lib.Dec.{eqb, ltb}
use lib.ListN.{length, get_or}
use Rattle.tlv_reader.specs.Octet.{pick, tag_width, number_width}

abbrev both : Bool → Bool → Bool
both true b = b
both false b = false

-- a table has what f finds at each of its places
abbrev Same : (ℕ → ℕ) → List ℕ → Bool
Same f [] = true
Same f (x ∷ l) = both (eqb x (f 0)) (Same (λ i. f (suc i)) l)

both_true : (a b : Bool) → both a b ≡ true → (a ≡ true) × (b ≡ true)
both_true true b t = (refl, t)
both_true false b t = absurd (let y : ◌≡◌ {A = ℕ} 0 1 = ap (λ (c : Bool). pick c 1 0) t in omega arith)

found : (f : ℕ → ℕ) (l : List ℕ) → Same f l ≡ true → (k : ℕ) → k < length l → get_or l k 0 ≡ f k
found f [] t k h = absurd (omega arith)
found f (x ∷ l) t zero h = eqb-true x (f 0) (both_true (eqb x (f 0)) (Same (λ i. f (suc i)) l) t).0
found f (x ∷ l) t (suc k) h = found (λ i. f (suc i)) l (both_true (eqb x (f 0)) (Same (λ i. f (suc i)) l) t).1 k (omega arith)

abbrev pub tag_by : ℕ → ℕ
tag_by form = pick (ltb form 2) form (pick (eqb form 6) 6 (pick (eqb form 7) 8 (pick (eqb (form % 2) 0) 2 4)))

pub tag-found : (form : ℕ) → form < 8 → tag_width form ≡ tag_by form
unfolding tag_width
tag-found form h = found tag_by (0 ∷ 1 ∷ 2 ∷ 4 ∷ 2 ∷ 4 ∷ 6 ∷ 8 ∷ []) refl form h

abbrev pub number_by : ℕ → ℕ
number_by kind =
    pick (ltb 19 kind) 0
    (pick (eqb (kind / 2) 4) 0
    (pick (eqb (kind % 4) 3) 8 (kind % 4 + 1 + kind % 4 / 2)))

pub number-found : (kind : ℕ) → kind < 25 → number_width kind ≡ number_by kind
unfolding number_width
number-found kind h = found number_by (1 ∷ 2 ∷ 4 ∷ 8 ∷ 1 ∷ 2 ∷ 4 ∷ 8 ∷ 0 ∷ 0 ∷ 4 ∷ 8 ∷ 1 ∷ 2 ∷ 4 ∷ 8 ∷ 1 ∷ 2 ∷ 4 ∷ 8 ∷ 0 ∷ 0 ∷ 0 ∷ 0 ∷ 0 ∷ []) refl kind h
