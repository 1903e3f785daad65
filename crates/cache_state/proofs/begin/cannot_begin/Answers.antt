use mathlib.Core.Path.{refl, sym, ◌∙◌}
use Prim.Native.Nat.{◌-◌}
use borrow.Author.Tests.{lt-ltb, le-ltb}
use Rattle.im_envelope.specs.Envelope.{max_message}
use Rattle.im_writer.specs.Envelope.{exchange_limit}
use Rattle.cache_state.specs.Begin.{unready}
use Rattle.cache_state.proofs.begin.cannot_begin.Goals as goal

pub returns-then-not-cache_ok : goal.returns-then-not-cache_ok
unfolding unready
returns-then-not-cache_ok c = let a = c.args in λ kept. rw (sym (c.cache_ok.ensures kept) ∙ c.if-not-cache_ok.true) refl

pub returns-then-room-lt-MAX_MESSAGE : goal.returns-then-room-lt-MAX_MESSAGE
unfolding unready
returns-then-room-lt-MAX_MESSAGE c = let a = c.args in λ kept. rw (sym (c.cache_ok.ensures kept) ∙ c.if-not-cache_ok.false, lt-ltb a.room max_message c.if-room-lt-MAX_MESSAGE.true) refl

pub returns-then-t-ge-LAST_EXCHANGE : goal.returns-then-t-ge-LAST_EXCHANGE
unfolding unready
returns-then-t-ge-LAST_EXCHANGE c = let a = c.args in λ kept. rw (sym (c.cache_ok.ensures kept) ∙ c.if-not-cache_ok.false, le-ltb a.room max_message c.if-room-lt-MAX_MESSAGE.false, le-ltb a.t.used (exchange_limit - 1) c.if-t-ge-LAST_EXCHANGE.true) refl

pub returns : goal.returns
unfolding unready
returns c = let a = c.args in λ kept. rw (sym (c.cache_ok.ensures kept) ∙ c.if-not-cache_ok.false, le-ltb a.room max_message c.if-room-lt-MAX_MESSAGE.false, lt-ltb a.t.used (exchange_limit - 1) c.if-t-ge-LAST_EXCHANGE.false) refl
