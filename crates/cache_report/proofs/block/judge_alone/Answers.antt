use mathlib.Core.Path.{◌≡◌, sym, ap, ◌∙◌}
use mathlib.Core.List.{List}
use Prim.Native.Nat.{ℕ}
use Rattle.im_responses.specs.Kept.{block_word}
use Rattle.cache_report.specs.Block.{Judgement}
use Rattle.cache_report.specs.Entry.{worse}
use Rattle.cache_report.specs.Words.{judgement_words, judgement_at, alone, alone_all}
use Rattle.cache_report.proofs.JudgementLaws.{mild-none, mild-room, first_word, rest_all, rest-next, rest-none, along-starts, along-six, along-seven, along-same}
use Rattle.cache_report.proofs.block.judge_alone.Goals as goal
use Rattle.cache_report.proofs.block.judge_alone.Goals.{then-one-eq-NO_ROOM, else-one-eq-NO_ROOM}

pub loop-j-init : goal.loop-j-init
loop-j-init c = (mild-none, ap alone_all (rest_all _ _ _) ∙ along-starts _)

pub returns-then-one-eq-UNUSABLE : goal.returns-then-one-eq-UNUSABLE
returns-then-one-eq-UNUSABLE c = let a = c.args in let l = c.loop-j in let q = block_word a.blocks.now l.j in let one : alone (judgement_at a.s.now a.blocks.now l.j) ≡ c.alone-one.result = ap (λ (w : ℕ). alone (judgement_words a.s.now w (q 1) (q 2))) (sym (first_word a.blocks.now l.j)) ∙ sym (c.alone-one.ensures (q 1)) in let so = l.invariant.1 ∙ ap (λ (r : List Judgement). worse l.number (alone_all r)) (rest-next a.s.now a.blocks.now a.n l.j c.loop-j-test.true) in along-six _ l.number _ _ so (one ∙ c.if-one-eq-UNUSABLE.true)

pub loop-j-preserved : goal.loop-j-preserved
loop-j-preserved c =
    let a = c.args in
    let l = c.loop-j in
    let q = block_word a.blocks.now l.j in
    let one : alone (judgement_at a.s.now a.blocks.now l.j) ≡ c.alone-one.result = ap (λ (w : ℕ). alone (judgement_words a.s.now w (q 1) (q 2))) (sym (first_word a.blocks.now l.j)) ∙ sym (c.alone-one.ensures (q 1)) in
    let so = l.invariant.1 ∙ ap (λ (r : List Judgement). worse l.number (alone_all r)) (rest-next a.s.now a.blocks.now a.n l.j c.loop-j-test.true) in
    elim c.if-one-eq-NO_ROOM.branch [
      | then-one-eq-NO_ROOM w ↦ rw w.number-is (mild-room, along-seven _ l.number _ _ so l.invariant.0 (one ∙ w.if-one-eq-NO_ROOM.true))
      | else-one-eq-NO_ROOM w ↦ rw w.number-is (l.invariant.0, along-same _ l.number _ _ so l.invariant.0 (λ e. c.if-one-eq-UNUSABLE.false (sym one ∙ e)) (λ e. w.if-one-eq-NO_ROOM.false (sym one ∙ e)))
    ]

pub returns : goal.returns
unfolding alone_all
returns c = let a = c.args in let l = c.loop-j in sym (l.invariant.1 ∙ ap (λ (r : List Judgement). worse l.number (alone_all r)) (rest-none a.s.now a.blocks.now a.n l.j c.loop-j-test.false) ∙ l.invariant.0.same)
