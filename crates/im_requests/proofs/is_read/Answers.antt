use mathlib.Core.Path.{sym, ◌∙◌}
use borrow.Author.Tests.{lt-ltb, le-ltb}
use Rattle.im_requests.specs.Read.{readable}
use Rattle.im_requests.proofs.is_read.Goals as goal

pub returns-then-not-is_whole : goal.returns-then-not-is_whole
unfolding readable
returns-then-not-is_whole c = λ at. sym (simp (sym (c.is_whole.ensures at c.args.codes.now) ∙ c.if-not-is_whole.true))

pub returns-then-filtered-ge-ABSENT : goal.returns-then-filtered-ge-ABSENT
unfolding readable
returns-then-filtered-ge-ABSENT c = λ at. sym (simp (sym (c.is_whole.ensures at c.args.codes.now) ∙ c.if-not-is_whole.false, ← c.flag_by-filtered.ensures, le-ltb _ _ c.if-filtered-ge-ABSENT.true))

pub returns : goal.returns
unfolding readable
returns c = λ at. sym (simp (sym (c.is_whole.ensures at c.args.codes.now) ∙ c.if-not-is_whole.false, ← c.flag_by-filtered.ensures, lt-ltb _ _ c.if-filtered-ge-ABSENT.false, ← c.number_by-revision.ensures))
