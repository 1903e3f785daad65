use mathlib.Core.Path.{refl}
use native.Mathlib.Omega.{arith}
use Rattle.cache_entries.proofs.MarkLaws.{marked-none, marked-text, marked_other}
use Rattle.cache_entries.proofs.texts.mark_places.Goals as goal
use Rattle.cache_entries.proofs.texts.mark_places.Goals.{then-kinds-i-eq-TEXT+then-words-i, else-kinds-i-eq-TEXT, else-kinds-i-eq-TEXT-via-then-kinds-i-eq-TEXT+else-words-i, else-kinds-i-eq-TEXT-via-else-kinds-i-eq-TEXT}

pub loop-i-init : goal.loop-i-init
loop-i-init c = marked-none _ _

pub loop-i-preserved : goal.loop-i-preserved
loop-i-preserved c =
    let l = c.loop-i in
    elim c.if-kinds-i-eq-TEXT.branch [
      | then-kinds-i-eq-TEXT+then-words-i w ↦ rw w.marks-is (marked-text _ _ l.i l.marks l.invariant w.if-kinds-i-eq-TEXT.true _ refl w.if-words-i.true)
      | else-kinds-i-eq-TEXT w ↦ rw w.marks-is (marked_other _ _ l.i l.marks l.invariant (λ p b t e.
          elim w.else-kinds-i-eq-TEXT.branch [
            | else-kinds-i-eq-TEXT-via-then-kinds-i-eq-TEXT+else-words-i u ↦ omega (arith, b, e, u.if-words-i.false)
            | else-kinds-i-eq-TEXT-via-else-kinds-i-eq-TEXT u ↦ u.if-kinds-i-eq-TEXT.false t
          ]))
    ]
