use mathlib.Core.Bool.{true, false}
use mathlib.Core.Path.{◌≡◌}
use borrow.Author.Tests.{lt-ltb, le-ltb}
use lib.Dec.{ltb}
use Rattle.node_schema.specs.Layout.{text_limit}
use Rattle.server_values.proofs.mark_of.Goals as goal

pub returns-then-rank-lt-TEXTS : goal.returns-then-rank-lt-TEXTS
returns-then-rank-lt-TEXTS c = let l : ltb c.args.rank text_limit ≡ true = lt-ltb _ _ c.if-rank-lt-TEXTS.true in rw l

pub returns-else-rank-lt-TEXTS : goal.returns-else-rank-lt-TEXTS
returns-else-rank-lt-TEXTS c = let l : ltb c.args.rank text_limit ≡ false = le-ltb _ _ c.if-rank-lt-TEXTS.false in rw l
