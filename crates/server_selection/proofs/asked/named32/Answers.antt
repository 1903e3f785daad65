use borrow.Author.Tests.{lt-ltb, le-ltb}
use Rattle.server_selection.proofs.asked.named32.Goals as goal

pub returns-then-x-lt4294967296 : goal.returns-then-x-lt4294967296
returns-then-x-lt4294967296 c = rw (lt-ltb _ _ c.if-x-lt4294967296.true)

pub returns-else-x-lt4294967296 : goal.returns-else-x-lt4294967296
returns-else-x-lt4294967296 c = rw (le-ltb _ _ c.if-x-lt4294967296.false)
