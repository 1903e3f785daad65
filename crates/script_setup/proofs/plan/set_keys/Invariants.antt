use mathlib.Core.Path.{◌≡◌}
use Prim.Native.Nat.{◌-◌, ◌≤◌}
use Rattle.script_setup.specs.Schema.{keys_from}
use Rattle.script_setup.proofs.plan.set_keys.Given as goal

abbrev pub invariant-loop-i : goal.invariant-loop-i
invariant-loop-i l = (l.rank ≤ l.i) × (keys_from (l.n - l.i) l.setup l.i l.rank l.words ≡ keys_from l.n l.setup 0 0 l.initial.words)
