use mathlib.Core.Path.{◌≡◌}
use mathlib.Core.Bool.{Bool, true}
use mathlib.Core.List.{List}
use Prim.Native.Nat.{ℕ}
use Rattle.node_schema.specs.Check.{every}
use Rattle.cache_entries.specs.Entries.{held_of}
use Rattle.cache_entries.specs.Valid.{entry_right_at}
use Rattle.cache_entries.proofs.valid.entries_ok.Given as goal

abbrev pub invariant-loop-i : goal.invariant-loop-i
invariant-loop-i l = (clusters order lengths : List ℕ) (primed : Bool) → every (entry_right_at (held_of clusters l.keys l.versions l.kinds l.words order lengths l.k l.n primed)) l.i ≡ true
