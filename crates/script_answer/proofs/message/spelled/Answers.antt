use borrow.Author.Tests.{not-true, not-false, lt-ltb, le-ltb}
use Rattle.script_answer.specs.Messages.{zeros, spelled_at}
use Rattle.script_answer.proofs.message.spelled.Goals as goal

pub returns-then-not-b : goal.returns-then-not-b
unfolding zeros spelled_at
returns-then-not-b c = let r = c.rest-b in rw (← r.ensures.value, not-true r.result.ok c.if-not-b.true)

pub returns-then-b-ge-SPELLED : goal.returns-then-b-ge-SPELLED
unfolding zeros spelled_at
returns-then-b-ge-SPELLED c = let r = c.rest-b in rw (← r.ensures.value, not-false r.result.ok c.if-not-b.false, le-ltb _ _ c.if-b-ge-SPELLED.true)

pub returns : goal.returns
unfolding zeros spelled_at
returns c = let r = c.rest-b in rw (← r.ensures.value, not-false r.result.ok c.if-not-b.false, lt-ltb _ _ c.if-b-ge-SPELLED.false, ← r.ensures.out_after)
