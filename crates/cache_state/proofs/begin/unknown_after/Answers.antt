use Rattle.cache_state.specs.Begin.{unknown_after}
use borrow.Author.Tests.{eq-eqb, ne_eqb}
use mathlib.Core.Path.{refl}
use Rattle.cache_state.proofs.begin.unknown_after.Goals as goal

pub returns-then-t-eq-WRITING : goal.returns-then-t-eq-WRITING
unfolding unknown_after
returns-then-t-eq-WRITING c = let t = c.args.t in λ kept. rw (eq-eqb t.stage 2 c.if-t-eq-WRITING.true) refl

pub returns : goal.returns
unfolding unknown_after
returns c = let t = c.args.t in λ kept. rw (ne_eqb t.stage 2 c.if-t-eq-WRITING.false) refl
