-- Bytes at the start of a buffer, from their bound alone; so many, or as many as there are.
use mathlib.Core.Path.{◌≡◌, ap, sym, ◌∙◌}
use mathlib.Core.List.{List}
use Prim.Native.Nat.{ℕ, ◌≤◌, min}
use native.Mathlib.Omega.{min_cases}
use native.Mathlib.Nat.{le_refl}
use lib.ListN.{length, take, drop, drop_of_length-le}
use lib.Seq.{length-take-le, take_all}
use Rattle.script_lines.specs.Words.{Filled}

pub filled : (n : ℕ) (xs : List ℕ) → n ≤ length xs → Filled n xs
filled n xs h = (h, sym (length-take-le n xs h))

module _ (n : ℕ) {r : ℕ} (xs : List ℕ) (e : r ≡ min n (length xs)) where
  pub take-clip : take r xs ≡ take n xs
  take-clip =
      ap (λ (k : ℕ). take k xs) e
      ∙ min_cases n (length xs) (take (min n (length xs)) xs ≡ take n xs)
      (λ h q. ap (λ (k : ℕ). take k xs) q)
      (λ h q. ap (λ (k : ℕ). take k xs) q ∙ take_all (length xs) xs (le_refl (length xs)) ∙ sym (take_all n xs h))

  pub drop-clip : drop r xs ≡ drop n xs
  drop-clip =
      ap (λ (k : ℕ). drop k xs) e
      ∙ min_cases n (length xs) (drop (min n (length xs)) xs ≡ drop n xs)
      (λ h q. ap (λ (k : ℕ). drop k xs) q)
      (λ h q. ap (λ (k : ℕ). drop k xs) q ∙ drop_of_length-le xs (le_refl (length xs)) ∙ sym (drop_of_length-le xs h))
