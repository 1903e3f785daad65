use mathlib.Core.Path.{◌∙◌}
use native.Mathlib.Omega.{arith}
use Rattle.node_plan.proofs.HeldLaws.{all_under, floats-wide, floats-narrow}
use Rattle.node_plan.proofs.held.floats_ok.Goals as goal

-- `node::held::floats_ok` meets its contract.
pub returns-then-low-high-ge-HALF : goal.returns-then-low-high-ge-HALF
returns-then-low-high-ge-HALF c = let a = c.args in floats-wide a.low a.high a.first a.word c.if-low-high-ge-HALF.true

pub overflow_cast-low : goal.overflow_cast-low
overflow_cast-low c = let a = c.args in omega (arith, (all_under a.low a.high a.first a.word c.if-low-high-ge-HALF.false).0)

pub overflow_cast-high : goal.overflow_cast-high
overflow_cast-high c = let a = c.args in omega (arith, (all_under a.low a.high a.first a.word c.if-low-high-ge-HALF.false).1)

pub overflow_cast-first : goal.overflow_cast-first
overflow_cast-first c = let a = c.args in omega (arith, (all_under a.low a.high a.first a.word c.if-low-high-ge-HALF.false).2)

pub overflow_cast-word : goal.overflow_cast-word
overflow_cast-word c = let a = c.args in omega (arith, (all_under a.low a.high a.first a.word c.if-low-high-ge-HALF.false).3)

pub returns : goal.returns
returns c =
    let a = c.args in
    c.range_holds.ensures ∙ floats-narrow a.low a.high a.first a.word c.if-low-high-ge-HALF.false
