use Rattle.std.proofs.Common.{◌≡◌, true}
use Rattle.node_schema.specs.Check.{all_below}
use Rattle.node_schema.proofs.check.all_below.Given as goal

abbrev pub invariant-loop-i : goal.invariant-loop-i
invariant-loop-i l = (all_below l.w l.from l.i l.limit ≡ true)
