use mathlib.Core.Path.{refl}
use native.Mathlib.Omega.{arith}
use native.Mathlib.Numerals.{add-one}
use borrow.Author.Tests.{lt-ltb, le-ltb}
use lib.ListN.{length-set}
use Rattle.base_octets.specs.Store.{store}
use Rattle.base_octets.proofs.StoreLaws.{add-two}
use Rattle.im_requests.proofs.keep_three.Goals as goal

pub returns-then-limit-count : goal.returns-then-limit-count
returns-then-limit-count c = rw (le-ltb _ _ c.if-limit-count.true) refl

pub bounds-kept-at-2 : goal.bounds-kept-at-2
bounds-kept-at-2 c = simp length-set (omega arith)

pub bounds-kept-at-3 : goal.bounds-kept-at-3
bounds-kept-at-3 c = simp length-set (omega arith)

pub returns : goal.returns
unfolding store
returns c = rw (lt-ltb _ _ c.if-limit-count.false) (simp (add-one, add-two))
