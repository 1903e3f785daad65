use borrow.Author.Tests.{lt-ltb, le-ltb}
use Rattle.script_setup.specs.Setup.{cluster_added}
use Rattle.script_setup.proofs.add_cluster.Goals as goal

pub returns-then-n : goal.returns-then-n
unfolding cluster_added
returns-then-n c = rw (c.count_up.ensures, lt-ltb _ _ c.if-n.true)

pub returns-else-n : goal.returns-else-n
unfolding cluster_added
returns-else-n c = rw (c.count_up.ensures, le-ltb _ _ c.if-n.false)
