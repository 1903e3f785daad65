use mathlib.Core.Path.{refl, sym, ◌∙◌}
use borrow.Author.Tests.{eq-eqb, ne_eqb, le-ltb, lt-ltb}
use Rattle.node_schema.specs.Check.{every}
use Rattle.node_schema.proofs.CheckLaws.{every_more, every-fails}
use Rattle.cache_entries.specs.Valid.{text_right_at}
use Rattle.cache_entries.proofs.MarkLaws.{marked-none, marked-text, marked_other}
use Rattle.cache_entries.proofs.valid.texts_ok.Goals as goal
use Rattle.cache_entries.proofs.valid.texts_ok.Goals.{then-kinds-i-eq-TEXT+else-words-i+else-marks-p-ne0+else-not-text_ok, else-kinds-i-eq-TEXT}

pub loop-i-init : goal.loop-i-init
unfolding every
loop-i-init c = (marked-none _ _, refl)

pub returns-then-words-i : goal.returns-then-words-i
unfolding text_right_at
returns-then-words-i c = let a = c.args in let l = c.loop-i in every-fails (text_right_at a.page.now a.kinds.now a.words.now a.lengths.now) a.n l.i c.loop-i-test.true (rw (eq-eqb _ _ c.if-kinds-i-eq-TEXT.true, le-ltb _ _ c.if-words-i.true) refl)

pub returns-then-marks-p-ne0 : goal.returns-then-marks-p-ne0
unfolding text_right_at
returns-then-marks-p-ne0 c = let a = c.args in let l = c.loop-i in every-fails (text_right_at a.page.now a.kinds.now a.words.now a.lengths.now) a.n l.i c.loop-i-test.true (rw (eq-eqb _ _ c.if-kinds-i-eq-TEXT.true, lt-ltb _ _ c.if-words-i.false, sym (l.invariant.0.each _ c.if-words-i.false) ∙ ne_eqb _ _ c.if-marks-p-ne0.true) refl)

pub returns-then-not-text_ok : goal.returns-then-not-text_ok
unfolding text_right_at
returns-then-not-text_ok c = let a = c.args in let l = c.loop-i in every-fails (text_right_at a.page.now a.kinds.now a.words.now a.lengths.now) a.n l.i c.loop-i-test.true (rw (eq-eqb _ _ c.if-kinds-i-eq-TEXT.true, lt-ltb _ _ c.if-words-i.false, sym (l.invariant.0.each _ c.if-words-i.false) ∙ eq-eqb _ _ c.if-marks-p-ne0.false, sym c.text_ok.ensures ∙ c.if-not-text_ok.true) refl)

pub loop-i-preserved : goal.loop-i-preserved
unfolding text_right_at
loop-i-preserved c =
    let a = c.args in
    let l = c.loop-i in
    elim c.if-kinds-i-eq-TEXT.branch [
      | then-kinds-i-eq-TEXT+else-words-i+else-marks-p-ne0+else-not-text_ok w ↦ (
        rw w.marks-is (marked-text _ _ l.i l.marks l.invariant.0 w.if-kinds-i-eq-TEXT.true _ refl w.if-words-i.false),
        every_more (text_right_at a.page.now a.kinds.now a.words.now a.lengths.now) l.i l.invariant.1 (rw (eq-eqb _ _ w.if-kinds-i-eq-TEXT.true, lt-ltb _ _ w.if-words-i.false, sym (l.invariant.0.each _ w.if-words-i.false) ∙ eq-eqb _ _ w.if-marks-p-ne0.false) (sym w.text_ok.ensures ∙ w.if-not-text_ok.false)),
      )
      | else-kinds-i-eq-TEXT w ↦ (
        rw w.marks-is (marked_other _ _ l.i l.marks l.invariant.0 (λ p b u e. w.if-kinds-i-eq-TEXT.false u)),
        every_more (text_right_at a.page.now a.kinds.now a.words.now a.lengths.now) l.i l.invariant.1 (rw (ne_eqb _ _ w.if-kinds-i-eq-TEXT.false) refl),
      )
    ]
