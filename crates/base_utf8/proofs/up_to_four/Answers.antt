use mathlib.Core.Path.{◌≡◌, subst}
use Prim.Native.Nat.{ℕ}
use lib.ListN.{length}
use native.Mathlib.Omega.{arith}
use Rattle.base_utf8.specs.Bytewise.{back}
use Rattle.base_utf8.proofs.Bytewise.{FourFrom, four-begin, four-turn, ended}
use Rattle.base_utf8.proofs.up_to_four.Goals as goal

pub loop-i-init : goal.loop-i-init
loop-i-init c =
    (rw (c.is_allowed.ensures, c.is_allowed-2.ensures, c.is_allowed-3.ensures) (four-begin c.args.s.now (omega arith)))

pub loop-i-preserved : goal.loop-i-preserved
loop-i-preserved c =
    let l = c.loop-i in
    (rw c.is_allowed_at-good.ensures (four-turn c.args.s.now l.i l.good l.invariant (omega arith) (omega arith)))

pub returns : goal.returns
returns c =
    let l = c.loop-i in
    let s = c.args.s.now in
    let n = length s in
    let e : l.i ≡ n = omega arith in
    rw c.is_due_at.ensures (ended s (back s n 3) (back s n 2) (back s n 1) n l.good (subst (λ (k : ℕ). FourFrom s k l.good) e l.invariant) (omega arith))
