use mathlib.Core.Path.{◌≡◌, refl, sym, ◌∙◌}
use Prim.Native.Nat.{◌+◌}
use native.Mathlib.Omega.{arith}
use Rattle.base_octets.specs.Number.{number_of}
use Rattle.base_octets.proofs.NumberLaws.{number-one, number-two}
use Rattle.base_octets.proofs.short.Goals as goal

pub returns-then-w-eq1 : goal.returns-then-w-eq1
returns-then-w-eq1 c =
    let a = c.args in
    let e : a.w ≡ 1 = c.if-w-eq1.true in
    record { value = rw e (c.from.ensures ∙ sym (number-one a.s.now a.at (omega arith))); small = omega (arith, c.from.ensures, c.type_inv.s a.at) }

pub returns-then-w-eq0 : goal.returns-then-w-eq0
unfolding number_of
returns-then-w-eq0 c = record { value = rw c.if-w-eq0.true refl; small = omega arith }

pub returns-then-w-eq2 : goal.returns-then-w-eq2
returns-then-w-eq2 c = record { value = rw c.if-w-eq2.true c.pair.ensures.value; small = omega (arith, c.pair.ensures.small) }

pub overflow_mul-result : goal.overflow_mul-result
overflow_mul-result c = let a = c.args in omega (arith, c.from-then-w-eq3.ensures, c.type_inv.s (a.at + 2))

pub overflow_add-result : goal.overflow_add-result
overflow_add-result c = let a = c.args in omega (arith, c.from-then-w-eq3.ensures, c.type_inv.s (a.at + 2), c.pair-then-w-eq3.ensures.small)

pub returns-then-w-eq3 : goal.returns-then-w-eq3
returns-then-w-eq3 c =
    let a = c.args in
    let s = a.s.now in
    let e : a.w ≡ 3 = c.if-w-eq3.true in
    let b = c.type_inv.s (a.at + 2) in
    record { value = rw e (omega (arith, number-two s a.at 1 (omega arith), number-one s (a.at + 2) (omega arith), c.from-then-w-eq3.ensures, c.pair-then-w-eq3.ensures.value)); small = omega (arith, c.from-then-w-eq3.ensures, b, c.pair-then-w-eq3.ensures.small) }

pub returns : goal.returns
returns c =
    let a = c.args in
    let e : a.w ≡ 4 = omega arith in
    record { value = rw e c.quad.ensures.value; small = omega (arith, c.quad.ensures.small) }
