use Rattle.std.specs.Prelude.{Some}
use mathlib.Core.Path.{◌≡◌, sym, ◌∙◌}
use mathlib.Core.List.{List}
use Prim.Native.Nat.{ℕ}
use borrow.Author.Tests.{eq-eqb, ne_eqb, lt-ltb, le-ltb}
use Rattle.im_members.specs.Pass.{pass_with}
use Rattle.im_responses.specs.Report.{part_by, part_made}
use Rattle.im_responses.proofs.part_of.Goals as goal
use Rattle.im_responses.proofs.part_of.Goals.{After-number_by-revision}

-- what the codes stand for
read : (c : After-number_by-revision) (at : List ℕ) → let a = c.args in part_by a.len (pass_with (Some a.m) at a.codes.now) a.blocks ≡ part_made c.number_by-subscription.result c.flag_by-more.result c.flag_by-suppress.result c.number_by-revision.result a.blocks
unfolding part_by
read c at = simp (sym (c.is_whole.ensures at c.args.codes.now) ∙ c.if-not-is_whole.false, ← c.number_by-subscription.ensures, ← c.flag_by-more.ensures, ← c.flag_by-suppress.ensures, ← c.number_by-revision.ensures)

pub returns-then-not-is_whole : goal.returns-then-not-is_whole
unfolding part_by
returns-then-not-is_whole c = λ at. sym (simp (sym (c.is_whole.ensures at c.args.codes.now) ∙ c.if-not-is_whole.true))

pub returns-then-subscription-eq-WRONG : goal.returns-then-subscription-eq-WRONG
returns-then-subscription-eq-WRONG c = λ at. sym (read (goal.at.returns-then-subscription-eq-WRONG c).After-number_by-revision at ∙ simp (eq-eqb _ _ c.if-subscription-eq-WRONG.true))

pub returns-then-more-eq-WRONG : goal.returns-then-more-eq-WRONG
returns-then-more-eq-WRONG c = λ at. sym (read (goal.at.returns-then-more-eq-WRONG c).After-number_by-revision at ∙ simp (ne_eqb _ _ c.if-subscription-eq-WRONG.false, eq-eqb _ _ c.if-more-eq-WRONG.true))

pub returns-then-suppress-eq-WRONG : goal.returns-then-suppress-eq-WRONG
returns-then-suppress-eq-WRONG c = λ at. sym (read (goal.at.returns-then-suppress-eq-WRONG c).After-number_by-revision at ∙ simp (ne_eqb _ _ c.if-subscription-eq-WRONG.false, ne_eqb _ _ c.if-more-eq-WRONG.false, eq-eqb _ _ c.if-suppress-eq-WRONG.true))

pub returns-then-revision-ge-ABSENT : goal.returns-then-revision-ge-ABSENT
returns-then-revision-ge-ABSENT c = λ at. sym (read (goal.at.returns-then-revision-ge-ABSENT c).After-number_by-revision at ∙ simp (ne_eqb _ _ c.if-subscription-eq-WRONG.false, ne_eqb _ _ c.if-more-eq-WRONG.false, ne_eqb _ _ c.if-suppress-eq-WRONG.false, le-ltb _ _ c.if-revision-ge-ABSENT.true))

pub returns : goal.returns
returns c = λ at. sym (read (goal.at.returns c).After-number_by-revision at ∙ simp (ne_eqb _ _ c.if-subscription-eq-WRONG.false, ne_eqb _ _ c.if-more-eq-WRONG.false, ne_eqb _ _ c.if-suppress-eq-WRONG.false, lt-ltb _ _ c.if-revision-ge-ABSENT.false))
