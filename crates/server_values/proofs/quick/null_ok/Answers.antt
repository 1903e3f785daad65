use mathlib.Core.Path.{sym, ◌∙◌}
use Rattle.node_schema.proofs.BoolLaws.{past, fails}
use Rattle.server_values.proofs.quick.null_ok.Goals as goal

pub returns-then-is_nullable : goal.returns-then-is_nullable
returns-then-is_nullable c = past _ _ (sym c.is_nullable.ensures ∙ c.if-is_nullable.true)

pub returns-else-is_nullable : goal.returns-else-is_nullable
returns-else-is_nullable c = fails _ _ (sym c.is_nullable.ensures ∙ c.if-is_nullable.false)
