use Rattle.server_selection.specs.Asked.{concrete}
use Rattle.server_selection.proofs.asked.is_concrete.Goals as goal

pub returns-then-p : goal.returns-then-p
unfolding concrete
returns-then-p c = rw c.if-p.true

pub returns-then-p-2 : goal.returns-then-p-2
unfolding concrete
returns-then-p-2 c = rw (c.if-p.false, c.if-p-2.true)

pub returns : goal.returns
unfolding concrete
returns c = rw (c.if-p.false, c.if-p-2.false)
