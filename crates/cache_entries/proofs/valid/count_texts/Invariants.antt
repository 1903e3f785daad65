use Prim.Native.Nat.{◌≤◌}
use Rattle.cache_entries.proofs.valid.count_texts.Given as goal

abbrev pub invariant-loop-kind : goal.invariant-loop-kind
invariant-loop-kind l = l.count ≤ l.kind-index
