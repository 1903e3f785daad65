use borrow.Author.Tests.{lt-ltb, le-ltb}
use Rattle.server_selection.proofs.asked.named16.Goals as goal

pub returns-then-x-lt65536 : goal.returns-then-x-lt65536
returns-then-x-lt65536 c = rw (lt-ltb _ _ c.if-x-lt65536.true)

pub returns-else-x-lt65536 : goal.returns-else-x-lt65536
returns-else-x-lt65536 c = rw (le-ltb _ _ c.if-x-lt65536.false)
