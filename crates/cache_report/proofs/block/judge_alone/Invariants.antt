use mathlib.Core.Path.{◌≡◌}
use Rattle.cache_report.specs.Entry.{worse}
use Rattle.cache_report.specs.Words.{judgements_from, alone_all}
use Rattle.cache_report.proofs.JudgementLaws.{Mild, rest}
use Rattle.cache_report.proofs.block.judge_alone.Given as goal

abbrev pub invariant-loop-j : goal.invariant-loop-j
invariant-loop-j l = Mild l.number × (alone_all (judgements_from l.s l.blocks l.n 0) ≡ worse l.number (alone_all (rest l.s l.blocks l.n l.j)))
