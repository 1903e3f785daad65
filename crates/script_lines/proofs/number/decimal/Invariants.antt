use mathlib.Core.Path.{◌≡◌}
use Rattle.script_lines.specs.Numbers.{decimal_from}
use lib.ListN.{drop}
use Rattle.script_lines.proofs.number.decimal.Given as goal

abbrev pub invariant-loop-c : goal.invariant-loop-c
invariant-loop-c l = decimal_from l.n (drop l.c-index l.w) ≡ decimal_from 0 l.w
