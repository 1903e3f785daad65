use mathlib.Core.Path.{refl, sym, ap, ◌∙◌}
use borrow.Author.Tests.{le-ltb, lt-ltb}
use Rattle.cache_entries.specs.Values.{usable_in, long_v}
use Rattle.cache_report.specs.Words.{judgement_words}
use Rattle.cache_report.proofs.block.alone.Goals as goal

pub returns-then-first-ge-UNSHOWN : goal.returns-then-first-ge-UNSHOWN
unfolding judgement_words
returns-then-first-ge-UNSHOWN c = λ second. rw (le-ltb _ _ c.if-first-ge-UNSHOWN.true) refl

pub returns-then-not-usable : goal.returns-then-not-usable
unfolding judgement_words
returns-then-not-usable c = let a = c.args in λ second. rw (lt-ltb a.first 281474976710656 c.if-first-ge-UNSHOWN.false, ap (usable_in a.s.now) (sym c.value_in-v.ensures) ∙ sym c.usable.ensures ∙ c.if-not-usable.true) refl

pub returns-then-is_long : goal.returns-then-is_long
unfolding judgement_words
returns-then-is_long c = let a = c.args in λ second. rw (lt-ltb a.first 281474976710656 c.if-first-ge-UNSHOWN.false, ap (usable_in a.s.now) (sym c.value_in-v.ensures) ∙ sym c.usable.ensures ∙ c.if-not-usable.false, ap long_v (sym c.value_in-v.ensures) ∙ sym c.is_long.ensures ∙ c.if-is_long.true) refl

pub returns-else-is_long : goal.returns-else-is_long
unfolding judgement_words
returns-else-is_long c = let a = c.args in λ second. rw (lt-ltb a.first 281474976710656 c.if-first-ge-UNSHOWN.false, ap (usable_in a.s.now) (sym c.value_in-v.ensures) ∙ sym c.usable.ensures ∙ c.if-not-usable.false, ap long_v (sym c.value_in-v.ensures) ∙ sym c.is_long.ensures ∙ c.if-is_long.false) refl
