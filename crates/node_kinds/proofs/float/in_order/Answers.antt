use Rattle.node_kinds.proofs.float.in_order.Goals as goal

pub returns-then-r : goal.returns-then-r
returns-then-r c = simp c.if-r.true

pub returns-else-r : goal.returns-else-r
returns-else-r c = simp c.if-r.false
