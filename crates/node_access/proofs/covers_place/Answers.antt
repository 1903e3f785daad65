use mathlib.Core.Path.{sym, ◌∙◌}
use Rattle.node_access.proofs.EntryLaws.{other-subject, other-endpoint, by-cluster}
use Rattle.node_access.proofs.covers_place.Goals as goal

pub returns-then-not-any_or : goal.returns-then-not-any_or
returns-then-not-any_or c = other-subject _ _ _ _ (sym c.any_or.ensures ∙ c.if-not-any_or.true)

pub returns-then-not-any_or-2 : goal.returns-then-not-any_or-2
returns-then-not-any_or-2 c = other-endpoint _ _ _ _ (sym c.any_or.ensures ∙ c.if-not-any_or.false) (sym c.any_or-2.ensures ∙ c.if-not-any_or-2.true)

pub returns : goal.returns
returns c = c.any_or-3.ensures ∙ by-cluster _ _ _ _ (sym c.any_or.ensures ∙ c.if-not-any_or.false) (sym c.any_or-2.ensures ∙ c.if-not-any_or-2.false)
