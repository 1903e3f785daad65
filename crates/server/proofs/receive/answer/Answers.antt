use mathlib.Core.Path.{refl}
use borrow.Author.Tests.{eq-eqb, ne_eqb}
use Rattle.server.proofs.receive.answer.Goals as goal

pub returns-then-len-eq0 : goal.returns-then-len-eq0
returns-then-len-eq0 c = let a = c.args in rw (eq-eqb a.len 0 c.if-len-eq0.true) refl

pub returns : goal.returns
returns c = let a = c.args in rw (ne_eqb a.len 0 c.if-len-eq0.false) refl
