use mathlib.Core.Path.{◌≡◌}
use Prim.Native.Nat.{◌≤◌}
use Rattle.server_values.specs.Quick.{long_texts}
use Rattle.server_values.proofs.pages.long_texts.Given as goal

abbrev pub invariant-loop-i : goal.invariant-loop-i
invariant-loop-i l = (l.long ≤ l.i) × (l.long ≡ long_texts l.texts l.i)
