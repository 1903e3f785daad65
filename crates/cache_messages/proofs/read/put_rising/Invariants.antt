use Rattle.cache_messages.proofs.FilterLaws.{Written}
use Rattle.cache_messages.proofs.read.put_rising.Given as goal

abbrev pub invariant-loop-j : goal.invariant-loop-j
invariant-loop-j l = Written l.clusters l.order l.shares l.n l.initial.out l.start l.out l.at l.j
