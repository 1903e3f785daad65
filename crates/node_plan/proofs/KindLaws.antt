-- The kind of a row by its code.
use mathlib.Core.Path.{◌≡◌, refl, ap, ◌∙◌}
use Prim.Native.Nat.{ℕ, zero, suc, ◌%◌, ◌^◌, ◌<◌}
use mir.Syntax.{w64}
use lib.IntN.{ℤ}
use mir.Val.{to_z, of_z}
use mir.ValLaws.{of_z-to_z}
use Rattle.node_kinds.specs.declared.Kind.TheVariants.{Boolean, Unsigned, Signed, Float, Text}
use Rattle.node_kinds.specs.Float.{range_of}
use Rattle.node_schema.specs.Layout.{half}
use Rattle.node_schema.specs.Rows.{AttributeRow}
use Rattle.node_plan.specs.Attributes.{by_code, kind_of}

-- a code that is none of the others'
pub other-code : {A : Type 0} (b u s f t : A) (k : ℕ) → (k ≡ 1 → ⊥) → (k ≡ 2 → ⊥) → (k ≡ 3 → ⊥) → (k ≡ 4 → ⊥) → by_code b u s f t k ≡ b
other-code b u s f t zero h₁ h₂ h₃ h₄ = refl
other-code b u s f t (suc zero) h₁ h₂ h₃ h₄ = absurd (h₁ refl)
other-code b u s f t (suc (suc zero)) h₁ h₂ h₃ h₄ = absurd (h₂ refl)
other-code b u s f t (suc (suc (suc zero))) h₁ h₂ h₃ h₄ = absurd (h₃ refl)
other-code b u s f t (suc (suc (suc (suc zero)))) h₁ h₂ h₃ h₄ = absurd (h₄ refl)
other-code b u s f t (suc (suc (suc (suc (suc k))))) h₁ h₂ h₃ h₄ = refl

module _ (a : AttributeRow) where
  pub kind-unsigned : a.kind ≡ 1 → kind_of a ≡ Unsigned a.low a.high
  unfolding kind_of
  kind-unsigned e = rw e

  pub kind-signed : a.kind ≡ 2 → kind_of a ≡ Signed (to_z w64 a.low) (to_z w64 a.high)
  unfolding kind_of
  kind-signed e = rw e

  pub kind-float : a.kind ≡ 3 → kind_of a ≡ Float (range_of (a.low % half) (a.high % half) (a.first % half))
  unfolding kind_of
  kind-float e = rw e

  pub kind-text : a.kind ≡ 4 → kind_of a ≡ Text
  unfolding kind_of
  kind-text e = rw e

  pub kind-boolean : (a.kind ≡ 1 → ⊥) → (a.kind ≡ 2 → ⊥) → (a.kind ≡ 3 → ⊥) → (a.kind ≡ 4 → ⊥) → kind_of a ≡ Boolean
  unfolding kind_of
  kind-boolean = other-code _ _ _ _ _ a.kind

-- a limit that went through its two's complement and back
pub signed-again : (n m : ℕ) (z : ℤ) → n < 2 ^ 64 → z ≡ to_z w64 n → n ≡ m → to_z w64 (of_z w64 z) ≡ to_z w64 m
signed-again n m z f e q =
    ap (λ (x : ℤ). to_z w64 (of_z w64 x)) e ∙ ap (to_z w64) (of_z-to_z w64 n (record { fits = f }) ∙ q)
