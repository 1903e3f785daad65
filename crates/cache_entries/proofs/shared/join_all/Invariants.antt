use Rattle.cache_entries.proofs.JoinLaws.{AlongAll}
use Rattle.cache_entries.proofs.shared.join_all.Given as goal

abbrev pub invariant-loop-i : goal.invariant-loop-i
invariant-loop-i l = AlongAll l.keys l.versions l.n l.i l.shares
