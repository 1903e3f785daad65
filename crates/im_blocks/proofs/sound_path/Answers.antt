use borrow.Author.Tests.{eq-eqb, ne_eqb}
use Rattle.im_blocks.specs.Path.{sound_path}
use Rattle.im_blocks.proofs.sound_path.Goals as goal

pub returns-then-p-eq-WRONG : goal.returns-then-p-eq-WRONG
unfolding sound_path
returns-then-p-eq-WRONG c = simp (eq-eqb _ _ c.if-p-eq-WRONG.true)

pub returns-then-p-eq-WRONG-2 : goal.returns-then-p-eq-WRONG-2
unfolding sound_path
returns-then-p-eq-WRONG-2 c = simp (ne_eqb _ _ c.if-p-eq-WRONG.false, eq-eqb _ _ c.if-p-eq-WRONG-2.true)

pub returns-then-p-eq-WRONG-3 : goal.returns-then-p-eq-WRONG-3
unfolding sound_path
returns-then-p-eq-WRONG-3 c = simp (ne_eqb _ _ c.if-p-eq-WRONG.false, ne_eqb _ _ c.if-p-eq-WRONG-2.false, eq-eqb _ _ c.if-p-eq-WRONG-3.true)

pub returns-then-p-eq-WRONG-4 : goal.returns-then-p-eq-WRONG-4
unfolding sound_path
returns-then-p-eq-WRONG-4 c = simp (ne_eqb _ _ c.if-p-eq-WRONG.false, ne_eqb _ _ c.if-p-eq-WRONG-2.false, ne_eqb _ _ c.if-p-eq-WRONG-3.false, eq-eqb _ _ c.if-p-eq-WRONG-4.true)

pub returns-then-p-eq-WRONG-5 : goal.returns-then-p-eq-WRONG-5
unfolding sound_path
returns-then-p-eq-WRONG-5 c = simp (ne_eqb _ _ c.if-p-eq-WRONG.false, ne_eqb _ _ c.if-p-eq-WRONG-2.false, ne_eqb _ _ c.if-p-eq-WRONG-3.false, ne_eqb _ _ c.if-p-eq-WRONG-4.false, eq-eqb _ _ c.if-p-eq-WRONG-5.true)

pub returns : goal.returns
unfolding sound_path
returns c = rw (ne_eqb _ _ c.if-p-eq-WRONG.false, ne_eqb _ _ c.if-p-eq-WRONG-2.false, ne_eqb _ _ c.if-p-eq-WRONG-3.false, ne_eqb _ _ c.if-p-eq-WRONG-4.false, ne_eqb _ _ c.if-p-eq-WRONG-5.false)
