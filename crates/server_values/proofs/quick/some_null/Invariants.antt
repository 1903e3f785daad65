use mathlib.Core.Path.{◌≡◌}
use Rattle.server_values.specs.Quick.{some_null}
use Rattle.server_values.proofs.quick.some_null.Given as goal

abbrev pub invariant-loop-i : goal.invariant-loop-i
invariant-loop-i l = (l.found ≡ some_null l.nulls l.i)
