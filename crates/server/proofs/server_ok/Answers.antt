use mathlib.Core.Path.{sym, ◌∙◌}
use Rattle.node_schema.proofs.BoolLaws.{past, fails}
use Rattle.server.proofs.ServerLaws.{as-tested}
use Rattle.server.proofs.server_ok.Goals as goal

pub returns-then-not-columns_right : goal.returns-then-not-columns_right
returns-then-not-columns_right c = λ versions row kept. fails _ _ (sym c.columns_right.ensures ∙ c.if-not-columns_right.true) ∙ sym (as-tested _)

pub returns-then-not-values_ok : goal.returns-then-not-values_ok
returns-then-not-values_ok c = λ versions row kept. fails _ _ (sym c.values_ok.ensures ∙ c.if-not-values_ok.true) ∙ past _ _ (sym c.columns_right.ensures ∙ c.if-not-columns_right.false) ∙ sym (as-tested _)

pub returns : goal.returns
returns c = λ versions row kept. c.row_ok.ensures row kept ∙ past _ _ (sym c.values_ok.ensures ∙ c.if-not-values_ok.false) ∙ past _ _ (sym c.columns_right.ensures ∙ c.if-not-columns_right.false) ∙ sym (as-tested _)
