use mathlib.Core.Bool.{Bool}
use Rattle.cache_entries.specs.Entries.{held_of}
use Rattle.cache_entries.specs.Texts.{Marked}
use Rattle.cache_report.proofs.TakeLaws.{Taking}
use Rattle.cache_report.proofs.part.take_part.Given as goal

abbrev pub invariant-loop-j : goal.invariant-loop-j
invariant-loop-j l =
    Marked l.kinds l.words l.so.entries l.marks
    × ((primed : Bool) → Taking l.s l.blocks l.positions l.count (held_of l.initial.clusters l.initial.keys l.initial.versions l.initial.kinds l.initial.words l.initial.order l.initial.lengths l.initial.so.clusters l.initial.so.entries primed) l.initial.page (held_of l.clusters l.keys l.versions l.kinds l.words l.order l.lengths l.so.clusters l.so.entries primed) l.page l.j)
