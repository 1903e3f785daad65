use borrow.Author.Tests.{lt-ltb, le-ltb}
use Rattle.im_blocks.specs.Status.{sound_status}
use Rattle.im_blocks.proofs.sound_status.Goals as goal

pub returns-then-x-ge-ABSENT : goal.returns-then-x-ge-ABSENT
unfolding sound_status
returns-then-x-ge-ABSENT c = simp (le-ltb _ _ c.if-x-ge-ABSENT.true)

pub returns : goal.returns
unfolding sound_status
returns c = simp (lt-ltb _ _ c.if-x-ge-ABSENT.false)
