use Prim.Native.Nat.{ℕ}
use Rattle.cache_receive.proofs.PartLaws.{part-as, part-bad, part-past, part-few, part-refused, part-taken, left-same, right-any}
use Rattle.cache_receive.proofs.LeaveLaws.{mark-low, turn_low, refused-by, refused-still}
use Rattle.cache_report.specs.Words.{judgements_from}
use Rattle.cache_state.specs.Words.{held_in, state_with}
use Rattle.cache_state.proofs.StateLaws.{right-held, right-asked}
use Rattle.cache_state.proofs.ReactLaws.{same-reaction}
use lib.Dec.{eqb}
use lib.ListN.{replicate, length-replicate}
use native.Mathlib.Omega.{arith}
use mathlib.Core.Path.{sym, ◌∙◌}
use Rattle.cache_receive.proofs.take_report.Goals as goal

pub returns-in_default : goal.returns-in_default
returns-in_default c = let a = c.args in let p = c.requires in same-reaction (part-bad a.page.now (state_with a.clusters.now a.keys.now a.versions.now a.kinds.now a.words.now a.order.now a.lengths.now a.t a.kept.now) a.payload.now (replicate 306 0) (part-as c.in_default.is c.report_kept.ensures)) (refused-by a.clusters.now a.keys.now a.versions.now a.kinds.now a.words.now a.order.now a.lengths.now p.0 c.refuse.ensures)

pub returns-then-is_past_turns : goal.returns-then-is_past_turns
returns-then-is_past_turns c = let a = c.args in let p = c.requires in same-reaction (part-past a.page.now (state_with a.clusters.now a.keys.now a.versions.now a.kinds.now a.words.now a.order.now a.lengths.now a.t a.kept.now) a.payload.now (replicate 306 0) (part-as c.in-Some.is c.report_kept.ensures) (sym c.is_past_turns.ensures ∙ c.if-is_past_turns.true)) (refused-by a.clusters.now a.keys.now a.versions.now a.kinds.now a.words.now a.order.now a.lengths.now p.0 c.refuse-then-is_past_turns.ensures)

pub take_blocks-filled-requires : goal.take_blocks-filled-requires
take_blocks-filled-requires c = let a = c.args in let p = c.requires in (part-few a.page.now (state_with a.clusters.now a.keys.now a.versions.now a.kinds.now a.words.now a.order.now a.lengths.now a.t a.kept.now) a.payload.now (replicate 306 0) (part-as c.in-Some.is c.report_kept.ensures) p.1.1.1.1.0, right-any a.page.now (held_in a.clusters.now a.keys.now a.versions.now a.kinds.now a.words.now a.order.now a.lengths.now a.t) (right-held a.page.now (state_with a.clusters.now a.keys.now a.versions.now a.kinds.now a.words.now a.order.now a.lengths.now a.t a.kept.now) p.1.1.1.0))

pub returns-then-filled-ne-DONE : goal.returns-then-filled-ne-DONE
returns-then-filled-ne-DONE c = let a = c.args in let p = c.requires in let k = left-same a.payload.now (held_in a.clusters.now a.keys.now a.versions.now a.kinds.now a.words.now a.order.now a.lengths.now a.t) a.page.now (judgements_from a.payload.now c.report_kept.new.kept c.in-Some.p.blocks 0) (c.take_blocks-filled.ensures (eqb a.t.primed 1)) c.if-filled-ne-DONE.true in
    same-reaction (part-refused a.page.now (state_with a.clusters.now a.keys.now a.versions.now a.kinds.now a.words.now a.order.now a.lengths.now a.t a.kept.now) a.payload.now (replicate 306 0) (part-as c.in-Some.is c.report_kept.ensures) p.1.1.1.1.0 (omega (arith, length-replicate {A = ℕ} 306 0)) (sym c.is_past_turns.ensures ∙ c.if-is_past_turns.false) (c.take_blocks-filled.ensures (eqb a.t.primed 1)) c.if-filled-ne-DONE.true) (refused-still a.clusters.now a.keys.now a.versions.now a.kinds.now a.words.now a.order.now a.lengths.now k.0 k.1 p.0 c.refuse-then-filled-ne-DONE.ensures)

pub after_part-requires : goal.after_part-requires
after_part-requires c = let a = c.args in let p = c.requires in let r = right-asked a.page.now (state_with a.clusters.now a.keys.now a.versions.now a.kinds.now a.words.now a.order.now a.lengths.now a.t a.kept.now) p.1.1.1.0 in (p.1.0, (p.1.1.0, (mark-low a.asked.now p.0 p.1.0, (omega (arith, r.used, r.exchange), (turn_low a.asked.now p.0 p.1.0, ((sym c.is_past_turns.ensures ∙ c.if-is_past_turns.false), p.1.1.1.1.1))))))

pub returns : goal.returns
returns c = let a = c.args in let p = c.requires in same-reaction (part-taken a.page.now (state_with a.clusters.now a.keys.now a.versions.now a.kinds.now a.words.now a.order.now a.lengths.now a.t a.kept.now) a.payload.now (replicate 306 0) (part-as c.in-Some.is c.report_kept.ensures) p.1.1.1.1.0 (omega (arith, length-replicate {A = ℕ} 306 0)) (sym c.is_past_turns.ensures ∙ c.if-is_past_turns.false) (c.take_blocks-filled.ensures (eqb a.t.primed 1)) c.if-filled-ne-DONE.false) (c.after_part.ensures c.take_blocks-filled.new.clusters c.take_blocks-filled.new.keys c.take_blocks-filled.new.versions c.take_blocks-filled.new.kinds c.take_blocks-filled.new.words c.take_blocks-filled.new.order c.take_blocks-filled.new.lengths c.take_blocks-filled.new.page)
