use mathlib.Core.Path.{◌≡◌}
use mathlib.Core.Bool.{true}
use Prim.Native.Nat.{◌≤◌}
use Rattle.node_schema.specs.Rows.{count_of_attributes}
use Rattle.node_schema.specs.Check.{every, rank as rank_of}
use Rattle.server_values.specs.Quick.{quick_at}
use Rattle.server_values.proofs.quick.all_quick.Given as goal

abbrev pub invariant-loop-i : goal.invariant-loop-i
invariant-loop-i l =
    (l.rank ≤ l.i) × (l.n ≡ count_of_attributes l.w) × (l.rank ≡ rank_of l.w l.i) × (every (quick_at l.w l.words l.nulls l.texts l.len) l.i ≡ true)
