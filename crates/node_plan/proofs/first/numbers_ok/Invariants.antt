use mathlib.Core.Path.{◌≡◌}
use mathlib.Core.Bool.{true}
use Rattle.node_schema.specs.Rows.{attribute_row, count_of_attributes}
use Rattle.node_schema.specs.Check.{every}
use Rattle.node_plan.specs.Check.{number_right}
use Rattle.node_plan.proofs.first.numbers_ok.Given as goal

abbrev pub invariant-loop-i : goal.invariant-loop-i
invariant-loop-i l = (l.n ≡ count_of_attributes l.w) × (every (λ k. number_right (attribute_row l.w k)) l.i ≡ true)
