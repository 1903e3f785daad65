use Prim.Native.Nat.{◌+◌}
use native.Mathlib.Omega.{arith}
use Rattle.base_octets.proofs.NumberLaws.{number-pair}
use Rattle.base_octets.proofs.pair.Goals as goal

pub overflow_mul-result : goal.overflow_mul-result
overflow_mul-result c = let a = c.args in omega (arith, c.type_inv.s (a.at + 1))

pub overflow_add-result : goal.overflow_add-result
overflow_add-result c = let a = c.args in omega (arith, c.type_inv.s (a.at + 1), c.type_inv.s a.at)

pub returns : goal.returns
returns c = let a = c.args in let k = number-pair a.s.now a.at (omega arith) in
    record { value = omega (arith, k); small = omega (arith, c.type_inv.s (a.at + 1), c.type_inv.s a.at) }
