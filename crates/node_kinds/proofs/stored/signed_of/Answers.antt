use mathlib.Core.Path.{◌≡◌, ap}
use Prim.Native.Nat.{◌-◌}
use native.Mathlib.Omega.{arith}
use mir.Syntax.{w64}
use mir.Val.{to_z}
use Rattle.node_kinds.proofs.stored.signed_of.Goals as goal

pub returns-else-n-lt9223372036854775808 : goal.returns-else-n-lt9223372036854775808
returns-else-n-lt9223372036854775808 c =
    let n = c.args.n in
    let q : 18446744073709551615 - (18446744073709551615 - n) ≡ n = omega arith in
    ap (to_z w64) q
