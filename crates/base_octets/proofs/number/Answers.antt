use mathlib.Core.Path.{◌≡◌}
use Prim.Native.Nat.{suc, ◌+◌, ◌-◌}
use native.Mathlib.Omega.{arith}
use Rattle.base_octets.proofs.NumberLaws.{number-two}
use Rattle.base_octets.proofs.number.Goals as goal

pub returns-then-w-le4 : goal.returns-then-w-le4
returns-then-w-le4 c = c.short.ensures.value

pub returns : goal.returns
returns c =
    let a = c.args in
    let s = a.s.now in
    let e : a.w ≡ suc (suc (suc (suc (a.w - 4)))) = omega arith in
    let p : a.at + 2 + 2 ≡ a.at + 4 = omega arith in
    rw e (omega (arith, c.quad.ensures.value, c.short-2.ensures.value, number-two s a.at (suc (suc (a.w - 4))) (omega arith), (rw p at (number-two s (a.at + 2) (a.w - 4) (omega arith))), number-two s a.at 2 (omega arith)))
