use Rattle.cache_receive.proofs.PartLaws.{done_refused, done-taken}
use Rattle.cache_report.specs.Words.{judgements_from}
use Rattle.cache_entries.specs.Entries.{held_of}
use Rattle.cache_entries.proofs.ValidLaws.{held-right}
use mathlib.Core.Bool.{false}
use mathlib.Core.Path.{refl}
use Rattle.cache_receive.proofs.take_blocks.Goals as goal

pub judge_part-number-requires : goal.judge_part-number-requires
judge_part-number-requires c = let a = c.args in let p = c.requires in let w = c.columns_whole.ensures 0 0 false in let r = held-right a.page.now (held_of a.clusters.now a.keys.now a.versions.now a.kinds.now a.words.now a.order.now a.lengths.now a.counts.clusters a.counts.entries false) (p.1 false) in (p.0, (r.few-clusters, (r.few-entries, (w.clusters, (w.keys, (refl, (r.cluster-order, r.entry-order)))))))

pub returns-then-number-ne-DONE : goal.returns-then-number-ne-DONE
returns-then-number-ne-DONE c = let a = c.args in λ primed. done_refused a.payload.now (held_of a.clusters.now a.keys.now a.versions.now a.kinds.now a.words.now a.order.now a.lengths.now a.counts.clusters a.counts.entries primed) a.page.now (judgements_from a.payload.now a.blocks.now a.count 0) (c.judge_part-number.ensures.0 a.versions.now a.kinds.now a.words.now a.lengths.now primed) c.if-number-ne-DONE.true

pub take_part-counts-requires : goal.take_part-counts-requires
take_part-counts-requires c = let p = c.requires in let z = c.judge_part-number.ensures.1 c.if-number-ne-DONE.false in (p.0, (p.1, (z.0, (z.1.0, z.1.1))))

pub returns : goal.returns
returns c = let a = c.args in λ primed. done-taken a.payload.now (held_of a.clusters.now a.keys.now a.versions.now a.kinds.now a.words.now a.order.now a.lengths.now a.counts.clusters a.counts.entries primed) a.page.now (judgements_from a.payload.now a.blocks.now a.count 0) (c.judge_part-number.ensures.0 a.versions.now a.kinds.now a.words.now a.lengths.now primed) c.if-number-ne-DONE.false (c.take_part-counts.ensures primed).0 (c.take_part-counts.ensures primed).1
