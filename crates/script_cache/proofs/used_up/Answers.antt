use borrow.Author.Tests.{le-leb, lt-leb}
use Rattle.script_cache.specs.Lines.{used_up}
use Rattle.script_cache.proofs.used_up.Goals as goal

pub returns-then-n-t : goal.returns-then-n-t
unfolding used_up
returns-then-n-t c = rw (← c.read_standing-t.ensures.value, le-leb _ _ c.if-n-t.true)

pub returns : goal.returns
unfolding used_up
returns c = rw (← c.read_standing-t.ensures.value, lt-leb _ _ c.if-n-t.false, c.put_standing.ensures)
