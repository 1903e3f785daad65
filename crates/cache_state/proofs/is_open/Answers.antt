use Rattle.cache_state.specs.State.{is_open}
use borrow.Author.Tests.{eq-eqb, ne_eqb}
use Rattle.cache_state.proofs.is_open.Goals as goal

pub returns-then-stage-eq-READING : goal.returns-then-stage-eq-READING
unfolding is_open
returns-then-stage-eq-READING c = rw (eq-eqb _ _ c.if-stage-eq-READING.true)

pub returns : goal.returns
unfolding is_open
returns c = rw (ne_eqb _ _ c.if-stage-eq-READING.false)
