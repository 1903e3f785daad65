use mathlib.Core.Path.{◌≡◌}
use mathlib.Core.Bool.{true}
use Rattle.node_schema.specs.Rows.{factory_start, factory_length}
use Rattle.node_schema.specs.Check.{every, count_of_texts}
use Rattle.node_plan.specs.Check.{factory_right}
use Rattle.node_plan.proofs.first.texts_ok.Given as goal

abbrev pub invariant-loop-rank : goal.invariant-loop-rank
invariant-loop-rank l =
    (l.n ≡ count_of_texts l.w) × (every (λ r. factory_right l.defaults (factory_start l.w r) (factory_length l.w r)) l.rank ≡ true)
