use Rattle.base_utf8.proofs.low.Goals as goal

-- `utf8::low` meets its contract.
pub returns-then-d-h : goal.returns-then-d-h
returns-then-d-h c = rw c.if-d-h.true

pub returns-else-d-h : goal.returns-else-d-h
returns-else-d-h c = rw c.if-d-h.false
