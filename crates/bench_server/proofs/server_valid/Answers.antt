use mathlib.Core.Path.{sym, ◌∙◌}
use Rattle.node_schema.proofs.BoolLaws.{past, fails}
use Rattle.bench_server.proofs.ValidLaws.{as-tested}
use Rattle.bench_server.proofs.server_valid.Goals as goal

pub returns-then-not-columns_right : goal.returns-then-not-columns_right
returns-then-not-columns_right c = fails _ _ (sym c.columns_right.ensures ∙ c.if-not-columns_right.true) ∙ sym (as-tested _ _ _ _)

pub returns : goal.returns
returns c = c.values_ok.ensures ∙ past _ _ (sym c.columns_right.ensures ∙ c.if-not-columns_right.false) ∙ sym (as-tested _ _ _ _)
