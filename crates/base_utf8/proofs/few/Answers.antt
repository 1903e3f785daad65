use native.Mathlib.Omega.{arith}
use Rattle.base_utf8.proofs.Bytewise.{as-walked, one_further, ended}
use Rattle.base_utf8.proofs.few.Goals as goal

pub loop-d-init : goal.loop-d-init
loop-d-init c = as-walked _

pub loop-d-preserved : goal.loop-d-preserved
loop-d-preserved c =
    let l = c.loop-d in
    rw c.is_allowed-good.ensures (one_further c.args.s.now l.a l.b l.c l.d-index l.good l.invariant (omega arith))

pub returns : goal.returns
returns c =
    let l = c.loop-d in
    rw c.is_due.ensures (ended c.args.s.now l.a l.b l.c l.d-index l.good l.invariant c.loop-d-test.false)
