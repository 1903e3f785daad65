use mathlib.Core.Path.{◌≡◌}
use mathlib.Core.Bool.{true, false}
use lib.ListN.{get_or}
use Rattle.node_schema.specs.Rows.{count_of_attributes}
use Rattle.node_schema.specs.Check.{every}
use Rattle.server_values.specs.Values.{mark_at}
use Rattle.server_values.specs.Valid.{shown_at}
use Rattle.server_values.proofs.valid.all_texts.Given as goal

abbrev pub invariant-loop-i : goal.invariant-loop-i
invariant-loop-i l =
    (l.n ≡ count_of_attributes l.w) × (every (λ k. shown_at l.w l.defaults l.edits k (get_or l.nulls k false) (mark_at l.w l.texts k)) l.i ≡ true)
