use mathlib.Core.Path.{sym, ◌∙◌}
use borrow.Author.Tests.{eq-eqb, ne_eqb, lt-ltb, le-ltb}
use Rattle.im_requests.specs.Write.{write_by}
use Rattle.im_requests.proofs.write.write_of.Goals as goal

pub returns-then-not-is_whole : goal.returns-then-not-is_whole
unfolding write_by
returns-then-not-is_whole c = λ at. sym (simp (sym (c.is_whole.ensures at c.args.codes.now) ∙ c.if-not-is_whole.true))

pub returns-then-suppress-ge-ABSENT : goal.returns-then-suppress-ge-ABSENT
unfolding write_by
returns-then-suppress-ge-ABSENT c = λ at. sym (simp (sym (c.is_whole.ensures at c.args.codes.now) ∙ c.if-not-is_whole.false, ← c.flag_by-suppress.ensures, ← c.flag_by-timed.ensures, ← c.flag_by-more.ensures, ← c.number_by-revision.ensures, le-ltb _ _ c.if-suppress-ge-ABSENT.true))

pub returns-then-timed-ge-ABSENT : goal.returns-then-timed-ge-ABSENT
unfolding write_by
returns-then-timed-ge-ABSENT c = λ at. sym (simp (sym (c.is_whole.ensures at c.args.codes.now) ∙ c.if-not-is_whole.false, ← c.flag_by-suppress.ensures, ← c.flag_by-timed.ensures, ← c.flag_by-more.ensures, ← c.number_by-revision.ensures, lt-ltb _ _ c.if-suppress-ge-ABSENT.false, le-ltb _ _ c.if-timed-ge-ABSENT.true))

pub returns-then-not-is_unchunked : goal.returns-then-not-is_unchunked
unfolding write_by
returns-then-not-is_unchunked c = λ at. sym (simp (sym (c.is_whole.ensures at c.args.codes.now) ∙ c.if-not-is_whole.false, ← c.flag_by-suppress.ensures, ← c.flag_by-timed.ensures, ← c.flag_by-more.ensures, ← c.number_by-revision.ensures, lt-ltb _ _ c.if-suppress-ge-ABSENT.false, lt-ltb _ _ c.if-timed-ge-ABSENT.false, sym c.is_unchunked.ensures ∙ c.if-not-is_unchunked.true))

pub returns-then-revision-ge-ABSENT : goal.returns-then-revision-ge-ABSENT
unfolding write_by
returns-then-revision-ge-ABSENT c = λ at. sym (simp (sym (c.is_whole.ensures at c.args.codes.now) ∙ c.if-not-is_whole.false, ← c.flag_by-suppress.ensures, ← c.flag_by-timed.ensures, ← c.flag_by-more.ensures, ← c.number_by-revision.ensures, lt-ltb _ _ c.if-suppress-ge-ABSENT.false, lt-ltb _ _ c.if-timed-ge-ABSENT.false, sym c.is_unchunked.ensures ∙ c.if-not-is_unchunked.false, le-ltb _ _ c.if-revision-ge-ABSENT.true))

pub returns-then-entries-eq0 : goal.returns-then-entries-eq0
unfolding write_by
returns-then-entries-eq0 c = λ at. sym (simp (sym (c.is_whole.ensures at c.args.codes.now) ∙ c.if-not-is_whole.false, ← c.flag_by-suppress.ensures, ← c.flag_by-timed.ensures, ← c.flag_by-more.ensures, ← c.number_by-revision.ensures, lt-ltb _ _ c.if-suppress-ge-ABSENT.false, lt-ltb _ _ c.if-timed-ge-ABSENT.false, sym c.is_unchunked.ensures ∙ c.if-not-is_unchunked.false, lt-ltb _ _ c.if-revision-ge-ABSENT.false, eq-eqb _ _ c.if-entries-eq0.true))

pub returns : goal.returns
unfolding write_by
returns c = λ at. sym (simp (sym (c.is_whole.ensures at c.args.codes.now) ∙ c.if-not-is_whole.false, ← c.flag_by-suppress.ensures, ← c.flag_by-timed.ensures, ← c.flag_by-more.ensures, ← c.number_by-revision.ensures, lt-ltb _ _ c.if-suppress-ge-ABSENT.false, lt-ltb _ _ c.if-timed-ge-ABSENT.false, sym c.is_unchunked.ensures ∙ c.if-not-is_unchunked.false, lt-ltb _ _ c.if-revision-ge-ABSENT.false, ne_eqb _ _ c.if-entries-eq0.false))
