use mathlib.Core.Path.{◌≡◌, refl}
use mathlib.Core.Bool.{true}
use lib.Dec.{eqb}
use borrow.Author.Tests.{eq-eqb, ne_eqb}
use Rattle.tlv_reader.specs.Octet.{pick}
use Rattle.im_exchange.specs.Rules.{first_reply}
use Rattle.cache_state.specs.State.{writing, open_right}
use Rattle.cache_state.proofs.open_ok.Goals as goal
use Rattle.cache_state.proofs.open_ok.Goals.{Joined-t-eq-WRITING, then-t-eq-WRITING+else-t-ne-FIRST_REPLY, else-t-eq-WRITING}

pub returns-then-t-eq0 : goal.returns-then-t-eq0
unfolding open_right
returns-then-t-eq0 c = let t = c.args.t in λ kept. rw (eq-eqb t.exchange 0 c.if-t-eq0.true) refl

pub returns-then-t-eq0-2 : goal.returns-then-t-eq0-2
unfolding open_right
returns-then-t-eq0-2 c = let t = c.args.t in λ kept. rw (ne_eqb t.exchange 0 c.if-t-eq0.false, eq-eqb t.turn 0 c.if-t-eq0-2.true) refl

pub returns-then-t-ne-FIRST_REPLY : goal.returns-then-t-ne-FIRST_REPLY
unfolding open_right
returns-then-t-ne-FIRST_REPLY c = let t = c.args.t in λ kept. rw (ne_eqb t.exchange 0 c.if-t-eq0.false, ne_eqb t.turn 0 c.if-t-eq0-2.false, eq-eqb t.stage writing c.if-t-eq-WRITING.true, ne_eqb t.turn first_reply c.if-t-ne-FIRST_REPLY.true) refl

-- a write awaits its one reply
once : (j : Joined-t-eq-WRITING) → let t = j.args.t in pick (eqb t.stage writing) (eqb t.turn first_reply) true ≡ true
once j =
    let t = j.args.t in
    elim j.if-t-eq-WRITING.branch [ then-t-eq-WRITING+else-t-ne-FIRST_REPLY w ↦ rw (eq-eqb t.stage writing w.if-t-eq-WRITING.true) (eq-eqb t.turn first_reply w.if-t-ne-FIRST_REPLY.false) | else-t-eq-WRITING w ↦ rw (ne_eqb t.stage writing w.if-t-eq-WRITING.false) refl ]

pub returns : goal.returns
unfolding open_right
returns c = let t = c.args.t in λ kept. rw (ne_eqb t.exchange 0 c.if-t-eq0.false, ne_eqb t.turn 0 c.if-t-eq0-2.false, once (goal.at.returns c).Joined-t-eq-WRITING) refl
