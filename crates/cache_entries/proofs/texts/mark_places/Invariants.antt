use Rattle.cache_entries.specs.Texts.{Marked}
use Rattle.cache_entries.proofs.texts.mark_places.Given as goal

abbrev pub invariant-loop-i : goal.invariant-loop-i
invariant-loop-i l = Marked l.kinds l.words l.i l.marks
