use mathlib.Core.Path.{sym, ◌∙◌}
use native.Mathlib.Omega.{arith}
use Rattle.node_access.proofs.EntryLaws.{no_more, gives_more, elsewhere}
use Rattle.node_access.proofs.raised.Goals as goal

pub returns-then-e-level : goal.returns-then-e-level
returns-then-e-level c = let a = c.args in no_more a.e _ _ _ a.level (omega arith)

pub returns-then-covers_place : goal.returns-then-covers_place
returns-then-covers_place c = let a = c.args in gives_more a.e _ _ _ a.level (sym c.covers_place.ensures ∙ c.if-covers_place.true) (omega arith)

pub returns-else-covers_place : goal.returns-else-covers_place
returns-else-covers_place c = elsewhere _ _ _ _ _ (sym c.covers_place.ensures ∙ c.if-covers_place.false)
