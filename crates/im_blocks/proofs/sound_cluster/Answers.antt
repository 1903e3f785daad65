use borrow.Author.Tests.{eq-eqb, ne_eqb, lt-ltb, le-ltb}
use Rattle.im_blocks.specs.Filter.{sound_cluster}
use Rattle.im_blocks.proofs.sound_cluster.Goals as goal

pub returns-then-p-eq-WRONG : goal.returns-then-p-eq-WRONG
unfolding sound_cluster
returns-then-p-eq-WRONG c = simp (eq-eqb _ _ c.if-p-eq-WRONG.true)

pub returns-then-p-ge-ABSENT : goal.returns-then-p-ge-ABSENT
unfolding sound_cluster
returns-then-p-ge-ABSENT c = simp (ne_eqb _ _ c.if-p-eq-WRONG.false, le-ltb _ _ c.if-p-ge-ABSENT.true)

pub returns : goal.returns
unfolding sound_cluster
returns c = rw (ne_eqb _ _ c.if-p-eq-WRONG.false, lt-ltb _ _ c.if-p-ge-ABSENT.false)
