use Rattle.cache_entries.proofs.JoinLaws.{Along}
use Rattle.cache_entries.proofs.shared.joined_at.Given as goal

abbrev pub invariant-loop-i : goal.invariant-loop-i
invariant-loop-i l = Along l.keys l.versions l.n l.k l.i l.so
