use native.Mathlib.Omega.{arith}
use Prim.Native.Nat.{suc, ◌-◌}
use mathlib.Core.Path.{◌≡◌, ap, ◌∙◌}
use mir.Syntax.{w64}
use mir.Val.{to_z}
use mir.ValLaws.{to_z_pos, to_z-neg}
use borrow.Author.Tests.{le-leb, lt-leb}
use Rattle.tlv_reader.specs.Tree.{complement}
use Rattle.tlv_reader.proofs.signed.Goals as goal

pub returns-then-v-top : goal.returns-then-v-top
unfolding complement
returns-then-v-top c = to_z_pos w64 c.args.v (omega arith) ∙ simp (le-leb _ _ c.if-v-top.true)

pub returns-else-v-top : goal.returns-else-v-top
unfolding complement
returns-else-v-top c =
    let q : 18446744073709551615 - (c.args.top - c.args.v) ≡ 18446744073709551616 - suc (c.args.top - c.args.v) = omega arith in
    ap (to_z w64) q ∙ to_z-neg w64 (c.args.top - c.args.v) (omega arith) ∙ simp (lt-leb _ _ c.if-v-top.false)
