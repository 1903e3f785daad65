use borrow.Author.Tests.{lt-ltb, le-ltb}
use Rattle.node_access.specs.Access.{is_granted}
use Rattle.node_access.proofs.is_granted.Goals as goal

pub returns-then-i-ge-CLUSTERS : goal.returns-then-i-ge-CLUSTERS
unfolding is_granted
returns-then-i-ge-CLUSTERS c = simp (le-ltb _ _ c.if-i-ge-CLUSTERS.true)

pub returns : goal.returns
unfolding is_granted
returns c = rw c.from.ensures (simp (lt-ltb _ _ c.if-i-ge-CLUSTERS.false))
