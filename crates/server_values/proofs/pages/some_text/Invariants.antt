use mathlib.Core.Path.{◌≡◌}
use Rattle.server_values.specs.Quick.{some_text}
use Rattle.server_values.proofs.pages.some_text.Given as goal

abbrev pub invariant-loop-i : goal.invariant-loop-i
invariant-loop-i l = (l.found ≡ some_text l.texts l.factory l.i)
