use Rattle.cache_receive.specs.Receive.{awaited}
use borrow.Author.Tests.{eq-eqb, ne_eqb}
use mathlib.Core.Path.{sym, ◌∙◌}
use Rattle.cache_receive.proofs.is_awaited.Goals as goal

pub returns-then-not-is_open : goal.returns-then-not-is_open
unfolding awaited
returns-then-not-is_open c = λ kept. rw (sym c.is_open.ensures ∙ c.if-not-is_open.true)

pub returns-then-e-t : goal.returns-then-e-t
unfolding awaited
returns-then-e-t c = λ kept. rw (sym c.is_open.ensures ∙ c.if-not-is_open.false, ne_eqb _ _ c.if-e-t.true)

pub returns-then-e-t-2 : goal.returns-then-e-t-2
unfolding awaited
returns-then-e-t-2 c = λ kept. rw (sym c.is_open.ensures ∙ c.if-not-is_open.false, eq-eqb _ _ c.if-e-t.false, ne_eqb _ _ c.if-e-t-2.true)

pub returns : goal.returns
unfolding awaited
returns c = λ kept. rw (sym c.is_open.ensures ∙ c.if-not-is_open.false, eq-eqb _ _ c.if-e-t.false, eq-eqb _ _ c.if-e-t-2.false) c.opcode_awaited.ensures
