use native.Mathlib.Omega.{arith}
use borrow.Author.Rules.{rules}
use Rattle.base_octets.proofs.NumberLaws.{number-two}
use Rattle.base_octets.proofs.quad.Goals as goal

pub returns : goal.returns
returns c = let a = c.args in
    record { value = omega (arith, number-two a.s.now a.at 2 (omega arith)); small = search rules }
