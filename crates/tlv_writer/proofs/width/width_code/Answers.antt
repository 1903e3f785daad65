use mathlib.Core.Path.{◌≡◌, refl}
use borrow.Author.Tests.{ne_eqb}
use native.Mathlib.Omega.{arith}
use Rattle.tlv_writer.specs.Width.{width_code}
use Rattle.tlv_writer.proofs.width.width_code.Goals as goal

pub returns-in-1 : goal.returns-in-1
unfolding width_code
returns-in-1 c = record { value = rw c.in-1.is refl; small = omega arith }

pub returns-in-2 : goal.returns-in-2
unfolding width_code
returns-in-2 c = record { value = rw c.in-2.is refl; small = omega arith }

pub returns-in-4 : goal.returns-in-4
unfolding width_code
returns-in-4 c = record { value = rw c.in-4.is refl; small = omega arith }

pub returns-in_default-clause-value : goal.returns-in_default-clause-value
unfolding width_code
returns-in_default-clause-value c =
    let w = c.args.w in
    let n₁ : w ≡ 1 → ⊥ = omega arith in
    let n₂ : w ≡ 2 → ⊥ = omega arith in
    let n₄ : w ≡ 4 → ⊥ = omega arith in
    simp (ne_eqb w 1 n₁, ne_eqb w 2 n₂, ne_eqb w 4 n₄)
