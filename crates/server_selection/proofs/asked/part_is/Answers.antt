use Rattle.server_selection.proofs.asked.part_is.Goals as goal

pub returns-then-any : goal.returns-then-any
returns-then-any c = rw c.if-any.true

pub returns-else-any : goal.returns-else-any
returns-else-any c = rw c.if-any.false
