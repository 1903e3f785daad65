use mathlib.Core.Path.{sym, ap, ◌∙◌}
use mathlib.Core.Bool.{Bool}
use mathlib.Core.List.{List}
use Prim.Native.Nat.{ℕ}
use native.Mathlib.Omega.{arith}
use lib.ListN.{get_or}
use Rattle.tlv_reader.specs.Octet.{pick}
use Rattle.cache_entries.specs.Entries.{held_of}
use Rattle.cache_report.specs.Words.{judgements_from}
use Rattle.cache_report.proofs.JudgeLaws.{judged-alone, judged-room, positions-back}
use Rattle.cache_report.proofs.part.judge_part.Goals as goal

pub returns-then-alone-ne0 : goal.returns-then-alone-ne0
returns-then-alone-ne0 c = let a = c.args in let e = c.judge_alone-alone.ensures in (λ versions kinds words lengths primed. e ∙ judged-alone (judgements_from a.s.now a.blocks.now a.count 0) (held_of a.clusters.now a.keys.now versions kinds words a.order.now lengths a.counts.clusters a.counts.entries primed) (λ z. c.if-alone-ne0.true (e ∙ z)), λ z. absurd (c.if-alone-ne0.true z))

pub find_positions-requires : goal.find_positions-requires
find_positions-requires c = let p = c.requires in (p.1.0, (p.1.1.0, (p.0, (p.1.1.1.0, (p.1.1.1.1.0, (p.1.1.1.1.1.1.0, p.1.1.1.1.1.1.1))))))

pub returns-then-not-find_positions : goal.returns-then-not-find_positions
returns-then-not-find_positions c = let a = c.args in let r = sym c.find_positions.ensures.0 ∙ c.if-not-find_positions.true in (λ versions kinds words lengths primed. sym (judged-room a.s.now a.blocks.now a.count 0 (held_of a.clusters.now a.keys.now versions kinds words a.order.now lengths a.counts.clusters a.counts.entries primed) (sym c.judge_alone-alone.ensures ∙ c.if-alone-ne0.false) ∙ ap (λ (b : Bool). pick b 0 7) r), λ z. absurd (omega (arith, z)))

pub returns : goal.returns
returns c = let a = c.args in let r = sym c.find_positions.ensures.0 ∙ c.if-not-find_positions.false in (λ versions kinds words lengths primed. sym (judged-room a.s.now a.blocks.now a.count 0 (held_of a.clusters.now a.keys.now versions kinds words a.order.now lengths a.counts.clusters a.counts.entries primed) (sym c.judge_alone-alone.ensures ∙ c.if-alone-ne0.false) ∙ ap (λ (b : Bool). pick b 0 7) r), λ z. (sym c.judge_alone-alone.ensures ∙ c.if-alone-ne0.false, (r, λ j l. ap (λ (m : List ℕ). get_or m j 0) (c.find_positions.ensures.1 (c.if-not-find_positions.false)) ∙ positions-back a.blocks.now a.positions.now (record { clusters = a.clusters.now; count_of_clusters = a.counts.clusters; keys = a.keys.now; count = a.counts.entries }) a.count (omega (arith, c.requires.0, c.requires.1.1.1.1.1.0)) j l)))
