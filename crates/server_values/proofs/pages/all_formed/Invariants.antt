use mathlib.Core.Path.{◌≡◌}
use mathlib.Core.Bool.{true}
use Rattle.node_schema.specs.Check.{every}
use Rattle.server_values.specs.Quick.{formed_at}
use Rattle.server_values.proofs.pages.all_formed.Given as goal

abbrev pub invariant-loop-i : goal.invariant-loop-i
invariant-loop-i l = (every (formed_at l.w l.page l.texts l.factory) l.i ≡ true)
