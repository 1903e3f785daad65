use mathlib.Core.Path.{◌≡◌}
use Prim.Native.Nat.{◌^◌, ◌<◌}
use lib.ListN.{drop}
use Rattle.script_lines.specs.Numbers.{hex_from}
use Rattle.script_lines.proofs.number.hex8.Given as goal

abbrev pub invariant-loop-c : goal.invariant-loop-c
invariant-loop-c l = (l.n < 16 ^ l.c-index) × (hex_from l.n (drop l.c-index l.w) ≡ hex_from 0 l.w)
