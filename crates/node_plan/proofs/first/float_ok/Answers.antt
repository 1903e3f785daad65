use mathlib.Core.Path.{◌∙◌}
use borrow.Author.Tests.{lt-ltb, le-ltb}
use Rattle.node_plan.specs.Check.{float_right}
use Rattle.node_plan.proofs.first.float_ok.Goals as goal

pub returns-then-low-ge-HALF : goal.returns-then-low-ge-HALF
unfolding float_right
returns-then-low-ge-HALF c = simp (le-ltb _ _ c.if-low-ge-HALF.true)

pub returns-then-high-ge-HALF : goal.returns-then-high-ge-HALF
unfolding float_right
returns-then-high-ge-HALF c = simp (lt-ltb _ _ c.if-low-ge-HALF.false, le-ltb _ _ c.if-high-ge-HALF.true)

pub returns-then-first-ge-HALF : goal.returns-then-first-ge-HALF
unfolding float_right
returns-then-first-ge-HALF c = simp (lt-ltb _ _ c.if-low-ge-HALF.false, lt-ltb _ _ c.if-high-ge-HALF.false, le-ltb _ _ c.if-first-ge-HALF.true)

pub returns : goal.returns
unfolding float_right
returns c = c.range_ok.ensures ∙ simp (lt-ltb _ _ c.if-low-ge-HALF.false, lt-ltb _ _ c.if-high-ge-HALF.false, lt-ltb _ _ c.if-first-ge-HALF.false)
