use mathlib.Core.Path.{◌≡◌, subst}
use Prim.Native.Nat.{ℕ}
use lib.ListN.{length}
use native.Mathlib.Omega.{arith}
use Rattle.base_utf8.specs.Bytewise.{back}
use Rattle.base_utf8.proofs.Shorter.{TwoFrom, two-begin, two-turn, ended-two}
use Rattle.base_utf8.proofs.up_to_two.Goals as goal

pub loop-i-init : goal.loop-i-init
loop-i-init c =
    (rw c.is_allowed_two-good.ensures (two-begin c.args.s.now c.requires.1 (omega arith)))

pub loop-i-preserved : goal.loop-i-preserved
loop-i-preserved c =
    let l = c.loop-i in
    (rw c.is_allowed_two-good-in-loop-i.ensures (two-turn c.args.s.now l.i l.good l.invariant (omega arith)))

pub returns : goal.returns
returns c =
    let l = c.loop-i in
    let s = c.args.s.now in
    let n = length s in
    let e : l.i ≡ n = omega arith in
    ended-two s n l.good (back s n 1) (subst (λ (k : ℕ). TwoFrom s k l.good) e l.invariant) (omega arith)
