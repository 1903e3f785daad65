use Rattle.std.proofs.Common.{refl, rules, le-ltb, lt-ltb}
use Rattle.node_schema.specs.Check.{every}
use Rattle.node_schema.proofs.CheckLaws.{every_more, every-fails, every-done}
use Rattle.node_schema.proofs.check.all_below.Goals as goal

pub loop-i-init : goal.loop-i-init
unfolding every
loop-i-init c = refl

pub returns-then-limit-w : goal.returns-then-limit-w
returns-then-limit-w c = every-fails _ _ c.loop-i.i (search rules) (le-ltb _ _ c.if-limit-w.true)

pub loop-i-preserved : goal.loop-i-preserved
loop-i-preserved c = every_more _ _ c.loop-i.invariant (lt-ltb _ _ c.if-limit-w.false)

pub returns : goal.returns
returns c = every-done _ _ _ (search rules) (search rules) c.loop-i.invariant
