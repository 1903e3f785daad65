use Rattle.cache_receive.specs.Receive.{of_write}
use borrow.Author.Tests.{eq-eqb, ne_eqb}
use mathlib.Core.Path.{sym, ◌∙◌}
use Rattle.cache_receive.proofs.is_of_write.Goals as goal

pub returns-then-not-exact : goal.returns-then-not-exact
unfolding of_write
returns-then-not-exact c = λ kept. rw (sym c.exact.ensures ∙ c.if-not-exact.true)

pub returns-then-p-t : goal.returns-then-p-t
unfolding of_write
returns-then-p-t c = λ kept. rw (sym c.exact.ensures ∙ c.if-not-exact.false, ne_eqb _ _ c.if-p-t.true)

pub returns-then-p-t-2 : goal.returns-then-p-t-2
unfolding of_write
returns-then-p-t-2 c = λ kept. rw (sym c.exact.ensures ∙ c.if-not-exact.false, eq-eqb _ _ c.if-p-t.false, ne_eqb _ _ c.if-p-t-2.true)

pub returns : goal.returns
unfolding of_write
returns c = λ kept. rw (sym c.exact.ensures ∙ c.if-not-exact.false, eq-eqb _ _ c.if-p-t.false, eq-eqb _ _ c.if-p-t-2.false)
