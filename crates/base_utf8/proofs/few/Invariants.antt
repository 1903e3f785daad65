use mathlib.Core.Path.{◌≡◌}
use mathlib.Core.Bool.{◌&&◌}
use Prim.Native.Nat.{◌≤◌, ◌-◌}
use lib.ListN.{length, drop}
use Rattle.base_utf8.specs.WellFormed.{well_formed}
use Rattle.base_utf8.specs.Bytewise.{judged}
use Rattle.base_utf8.proofs.few.Given as goal

abbrev pub invariant-loop-d : goal.invariant-loop-d
invariant-loop-d l = well_formed l.s ≡ (l.good && judged l.a l.b l.c (drop l.d-index l.s))
