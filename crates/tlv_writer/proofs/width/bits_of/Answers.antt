use mathlib.Core.Path.{◌≡◌, ap, ◌∙◌}
use Prim.Native.Nat.{ℕ, ◌-◌}
use lib.Signed.{mag}
use mir.Syntax.{w64}
use mir.ValLaws.{to_z-of_z}
use Rattle.tlv_writer.proofs.Signed.{twos-below, above}
use Rattle.tlv_writer.proofs.width.bits_of.Goals as goal
use Rattle.tlv_writer.proofs.width.bits_of.Goals.{After-magnitude-n}

is-magnitude : (c : After-magnitude-n) → c.magnitude-n.result ≡ mag c.args.z
is-magnitude c = c.magnitude-n.ensures ∙ ap mag (to_z-of_z w64 c.args.z c.ranges.z)

pub returns-then-z-lt0 : goal.returns-then-z-lt0
returns-then-z-lt0 c =
    let t = simp (to_z-of_z w64 c.args.z c.ranges.z) at c.if-z-lt0.true in
    ap (λ (n : ℕ). 18446744073709551615 - n) (is-magnitude (goal.at.returns-then-z-lt0 c).After-magnitude-n) ∙ twos-below c.args.z t

pub returns-else-z-lt0 : goal.returns-else-z-lt0
returns-else-z-lt0 c =
    let t = simp (to_z-of_z w64 c.args.z c.ranges.z) at c.if-z-lt0.false in
    is-magnitude (goal.at.returns-else-z-lt0 c).After-magnitude-n ∙ (above c.args.z t).1.1
