use Rattle.cache_receive.specs.Receive.{past_turns}
use borrow.Author.Tests.{eq-eqb, ne_eqb}
use Rattle.cache_receive.proofs.is_past_turns.Goals as goal

pub returns-then-more-eq1 : goal.returns-then-more-eq1
unfolding past_turns
returns-then-more-eq1 c = rw (eq-eqb _ _ c.if-more-eq1.true)

pub returns : goal.returns
unfolding past_turns
returns c = rw (ne_eqb _ _ c.if-more-eq1.false)
