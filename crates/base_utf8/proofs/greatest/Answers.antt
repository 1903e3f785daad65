use native.Mathlib.Omega.{arith}
use Rattle.base_utf8.proofs.Below.{none_yet_lem, wider, decides}
use Rattle.base_utf8.proofs.greatest.Goals as goal

pub loop-b-init : goal.loop-b-init
loop-b-init c = none_yet_lem _

pub loop-b-preserved : goal.loop-b-preserved
loop-b-preserved c = let l = c.loop-b in rw c.max-m.ensures (wider c.args.s.now l.m l.b-index l.invariant (omega arith))

pub returns : goal.returns
returns c = let l = c.loop-b in decides c.args.s.now l.m l.b-index l.invariant (omega arith)
