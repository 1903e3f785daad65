use mathlib.Core.Path.{refl}
use borrow.Author.Tests.{eq-eqb, ne_eqb}
use Rattle.im_requests.specs.Write.{unchunked}
use Rattle.im_requests.proofs.write.is_unchunked.Goals as goal

pub returns-then-more-eq0 : goal.returns-then-more-eq0
unfolding unchunked
returns-then-more-eq0 c = rw (eq-eqb _ _ c.if-more-eq0.true) refl

pub returns : goal.returns
unfolding unchunked
returns c = rw (ne_eqb _ _ c.if-more-eq0.false) refl
