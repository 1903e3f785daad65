use mathlib.Core.Path.{refl}
use native.Mathlib.Numerals.{towards_suc}
use borrow.Author.Tests.{lt-ltb, le-ltb}
use Rattle.base_octets.specs.Store.{store}
use Rattle.im_requests.proofs.write.WriteEntryMember.keep.Goals as goal

pub returns-then-count-ge-MAX_WRITES : goal.returns-then-count-ge-MAX_WRITES
returns-then-count-ge-MAX_WRITES c = rw (le-ltb _ _ c.if-count-ge-MAX_WRITES.true) refl

pub returns : goal.returns
unfolding store
returns c = rw (lt-ltb _ _ c.if-count-ge-MAX_WRITES.false) (simp towards_suc)
