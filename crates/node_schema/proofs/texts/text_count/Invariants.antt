use Rattle.std.proofs.Common.{◌≡◌, ◌≤◌}
use Rattle.node_schema.specs.Rows.{count_of_attributes}
use Rattle.node_schema.specs.Check.{rank}
use Rattle.node_schema.proofs.texts.text_count.Given as goal

abbrev pub invariant-loop-i : goal.invariant-loop-i
invariant-loop-i l = (l.texts ≤ l.i) × (l.n ≡ count_of_attributes l.w) × (l.texts ≡ rank l.w l.i)
