-- What holds of each of a list, and two lists in step.
use mathlib.Core.Path.{◌≡◌}
use mathlib.Core.List.{List, [], ◌∷◌, ◌++◌, map}
use Rattle.im_blocks.proofs.BlockLaws.{never}
use Rattle.im_writer.specs.Spelling.{Each}
use Rattle.proof_trip.specs.Taken.{InStep}

pub each_both : {A : Type 0} (P : A → Type 0) (a b : List A) → Each P a → Each P b → Each P (a ++ b)
unfolding Each
each_both P [] b h k = k
each_both P (x ∷ a) b h k = (h.0, each_both P a b h.1 k)

-- lists that mean the same, one by one
module _ {A B C : Type 0} (β : B → C) (γ : A → C) (P : A → Type 0) (R : A → B → Type 0) (law : (a : A) → P a → (b : B) → β b ≡ γ a → R a b) where
  pub in_step : (l : List A) (m : List B) → map β m ≡ map γ l → Each P l → InStep R l m
  unfolding Each InStep
  in_step [] [] e h = tt
  in_step [] (y ∷ m) e h = never (cc)
  in_step (x ∷ l) [] e h = never (cc)
  in_step (x ∷ l) (y ∷ m) e h = (law x h.0 y (cc), in_step l m (cc) h.1)
