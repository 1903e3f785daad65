use mathlib.Core.Path.{◌≡◌}
use mathlib.Core.Bool.{true}
use Rattle.node_schema.specs.Check.{every}
use Rattle.server_values.specs.Quick.{null_at}
use Rattle.server_values.proofs.quick.all_nulls.Given as goal

abbrev pub invariant-loop-i : goal.invariant-loop-i
invariant-loop-i l = (every (null_at l.w l.words l.nulls) l.i ≡ true)
