use mathlib.Core.Path.{sym, ◌∙◌}
use Rattle.server_values.proofs.QuickLaws.{plain-none, plain-long, plain-all}
use Rattle.server_values.proofs.pages.is_plain.Goals as goal

pub returns-then-not-some_text : goal.returns-then-not-some_text
returns-then-not-some_text c = plain-none _ _ _ _ (sym c.some_text.ensures ∙ c.if-not-some_text.true)

pub returns-then-page-gt-PAGE : goal.returns-then-page-gt-PAGE
returns-then-page-gt-PAGE c = plain-long _ _ _ _ (sym c.some_text.ensures ∙ c.if-not-some_text.false) c.if-page-gt-PAGE.true

pub returns : goal.returns
returns c = c.ascii.ensures ∙ plain-all _ _ _ _ (sym c.some_text.ensures ∙ c.if-not-some_text.false) c.if-page-gt-PAGE.false
