use mathlib.Core.Path.{◌∙◌}
use borrow.Author.Tests.{le-leb, lt-leb}
use Rattle.node_schema.proofs.BoolLaws.{past, fails}
use Rattle.server_values.proofs.pages.whole_page.Goals as goal

pub returns-then-limit-page : goal.returns-then-limit-page
returns-then-limit-page c = fails _ _ (lt-leb _ _ c.if-limit-page.true)

pub returns : goal.returns
returns c = c.valid.ensures ∙ past _ _ (le-leb _ _ c.if-limit-page.false)
