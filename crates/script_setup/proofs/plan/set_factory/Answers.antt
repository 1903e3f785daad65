use borrow.Author.Tests.{lt-ltb, le-ltb}
use Rattle.script_setup.specs.Schema.{factory_set}
use Rattle.script_setup.proofs.plan.set_factory.Goals as goal

pub returns-then-rank-lt-TEXTS : goal.returns-then-rank-lt-TEXTS
unfolding factory_set
returns-then-rank-lt-TEXTS c = rw (lt-ltb _ _ c.if-rank-lt-TEXTS.true)

pub returns-else-rank-lt-TEXTS : goal.returns-else-rank-lt-TEXTS
unfolding factory_set
returns-else-rank-lt-TEXTS c = rw (le-ltb _ _ c.if-rank-lt-TEXTS.false)
