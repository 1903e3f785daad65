use mathlib.Core.Path.{refl}
use borrow.Author.Tests.{eq-eqb, ne_eqb}
use Rattle.im_exchange.specs.Rules.{nothing}
use Rattle.server_replies.specs.Row.{served_right}
use Rattle.server_replies.proofs.words.served_ok.Goals as goal

pub returns-then-p-ne0 : goal.returns-then-p-ne0
unfolding served_right
returns-then-p-ne0 c = let p = c.args.p in rw (ne_eqb p.last 0 c.if-p-ne0.true) refl

pub returns-then-p-ne0-2 : goal.returns-then-p-ne0-2
unfolding served_right
returns-then-p-ne0-2 c = let p = c.args.p in rw (eq-eqb p.last 0 c.if-p-ne0.false, ne_eqb p.turn 0 c.if-p-ne0-2.true) refl

pub returns-then-p-ne-NOTHING : goal.returns-then-p-ne-NOTHING
unfolding served_right
returns-then-p-ne-NOTHING c = let p = c.args.p in rw (eq-eqb p.last 0 c.if-p-ne0.false, eq-eqb p.turn 0 c.if-p-ne0-2.false, ne_eqb p.next nothing c.if-p-ne-NOTHING.true) refl

pub returns-then-p-ne0-3 : goal.returns-then-p-ne0-3
unfolding served_right
returns-then-p-ne0-3 c = let p = c.args.p in rw (eq-eqb p.last 0 c.if-p-ne0.false, eq-eqb p.turn 0 c.if-p-ne0-2.false, eq-eqb p.next nothing c.if-p-ne-NOTHING.false, ne_eqb p.closed 0 c.if-p-ne0-3.true) refl

pub returns : goal.returns
unfolding served_right
returns c = let p = c.args.p in rw (eq-eqb p.last 0 c.if-p-ne0.false, eq-eqb p.turn 0 c.if-p-ne0-2.false, eq-eqb p.next nothing c.if-p-ne-NOTHING.false, eq-eqb p.closed 0 c.if-p-ne0-3.false) refl
