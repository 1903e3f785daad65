use mathlib.Core.Path.{◌≡◌}
use mathlib.Core.Bool.{true, false}
use lib.Signed.{le_z}
use mir.Syntax.{w64}
use mir.ValLaws.{to_z-of_z}
use Rattle.node_kinds.proofs.limits.signed_within.Goals as goal

pub returns-then-low-z : goal.returns-then-low-z
returns-then-low-z c =
    let l = to_z-of_z w64 c.args.low c.ranges.low in
    let z = to_z-of_z w64 c.args.z c.ranges.z in
    let h = to_z-of_z w64 c.args.high c.ranges.high in
    let t : le_z c.args.low c.args.z ≡ true = simp (l, z) at c.if-low-z.true in
    simp (z, h, t)

pub returns-else-low-z : goal.returns-else-low-z
returns-else-low-z c =
    let l = to_z-of_z w64 c.args.low c.ranges.low in
    let z = to_z-of_z w64 c.args.z c.ranges.z in
    let t : le_z c.args.low c.args.z ≡ false = simp (l, z) at c.if-low-z.false in
    simp t
