use borrow.Author.Tests.{lt-ltb, le-ltb}
use Rattle.script_setup.specs.Access.{with_entry}
use Rattle.script_setup.proofs.access.with_entry.Goals as goal

pub returns-then-n-lt-ACCESS_ENTRIES : goal.returns-then-n-lt-ACCESS_ENTRIES
unfolding with_entry
returns-then-n-lt-ACCESS_ENTRIES c = rw (lt-ltb _ _ c.if-n-lt-ACCESS_ENTRIES.true)

pub returns : goal.returns
unfolding with_entry
returns c = rw (le-ltb _ _ c.if-n-lt-ACCESS_ENTRIES.false)
