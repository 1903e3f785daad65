use mathlib.Core.Path.{sym, ◌∙◌}
use borrow.Author.Tests.{eq-eqb, ne_eqb}
use Rattle.cache_entries.specs.Limits.{text_kind}
use Rattle.cache_report.proofs.RightLaws.{text-word}
use Rattle.cache_report.proofs.ItemLaws.{word-plain}
use Rattle.cache_report.proofs.set.word_as.Goals as goal

pub returns-then-kind_of-eq-TEXT : goal.returns-then-kind_of-eq-TEXT
returns-then-kind_of-eq-TEXT c = sym (text-word _ _ (eq-eqb _ text_kind (sym c.kind_of.ensures ∙ c.if-kind_of-eq-TEXT.true)))

pub returns : goal.returns
returns c = c.word_of.ensures ∙ word-plain _ _ (ne_eqb _ text_kind (λ e. c.if-kind_of-eq-TEXT.false (c.kind_of.ensures ∙ e)))
