use Rattle.std.proofs.Common.{le-ltb}
use Rattle.node_schema.proofs.factory_word.Goals as goal

pub returns-then-rank-lt-TEXTS : goal.returns-then-rank-lt-TEXTS
returns-then-rank-lt-TEXTS c = c.factory_at.ensures

pub returns-else-rank-lt-TEXTS : goal.returns-else-rank-lt-TEXTS
returns-else-rank-lt-TEXTS c = rw (le-ltb _ _ c.if-rank-lt-TEXTS.false)
