-- A part of a stretch that was judged as a whole is the same part of the page.
use mathlib.Core.Path.{◌≡◌, refl, ap, ◌∙◌}
use mathlib.Core.Bool.{true}
use mathlib.Core.List.{List, [], ◌∷◌}
use Prim.Native.Nat.{ℕ, zero, suc, ◌+◌, ◌≤◌}
use native.Mathlib.Omega.{arith}
use lib.ListN.{length, take, drop}
use Rattle.base_utf8.specs.Bytewise.{all_below}
use Rattle.base_utf8.specs.WellFormed.{well_formed}
use Rattle.base_utf8.proofs.Below.{ascii-formed, below-part}
use Rattle.node_schema.proofs.BoolLaws.{by-test}
use Rattle.cache_entries.specs.Valid.{form_of}

cut-first : (n m : ℕ) (l : List ℕ) → n ≤ m → take n (take m l) ≡ take n l
cut-first zero m l h = refl
cut-first (suc n) zero l h = absurd (omega (arith, h))
cut-first (suc n) (suc m) [] h = refl
cut-first (suc n) (suc m) (x ∷ l) h = ap (λ (r : List ℕ). x ∷ r) (cut-first n m l (omega (arith, h)))

cut-take : (a n m : ℕ) (l : List ℕ) → a + n ≤ m → take n (drop a (take m l)) ≡ take n (drop a l)
cut-take zero n m l h = cut-first n m l (omega (arith, h))
cut-take (suc a) n zero l h = absurd (omega (arith, h))
cut-take (suc a) n (suc m) [] h = refl
cut-take (suc a) n (suc m) (x ∷ l) h = cut-take a n m l (omega (arith, h))

pub in_whole : (page whole : List ℕ) (a n : ℕ) → whole ≡ take (length whole) page → a + n ≤ length whole → take n (drop a whole) ≡ take n (drop a page)
in_whole page whole a n e h = ap (λ (w : List ℕ). take n (drop a w)) e ∙ cut-take a n (length whole) page h

-- what the form of a stretch says
pub form-plain : (l : List ℕ) → form_of l ≡ 2 → all_below 128 l ≡ true
unfolding form_of
form-plain l h = by-test (all_below 128 l) (λ t. t) (λ f. by-test (well_formed l) (λ t. absurd (let z : 1 ≡ 2 = rw (f, t) at h in omega (arith, z))) (λ g. absurd (let z : 0 ≡ 2 = rw (f, g) at h in omega (arith, z))))

pub form-whole : (l : List ℕ) → form_of l ≡ 1 → well_formed l ≡ true
unfolding form_of
form-whole l h = by-test (all_below 128 l) (λ t. absurd (let z : 2 ≡ 1 = rw t at h in omega (arith, z))) (λ f. by-test (well_formed l) (λ t. t) (λ g. absurd (let z : 0 ≡ 1 = rw (f, g) at h in omega (arith, z))))

pub plain-part : (l : List ℕ) (a n : ℕ) → form_of l ≡ 2 → well_formed (take n (drop a l)) ≡ true
plain-part l a n h = ascii-formed _ (below-part 128 n a l (form-plain l h))
