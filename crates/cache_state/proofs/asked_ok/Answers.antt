use Rattle.im_writer.specs.Envelope.{exchange_limit}
use Rattle.cache_state.specs.State.{asked_right}
use borrow.Author.Tests.{lt-ltb, le-ltb, lt-leb, le-leb}
use mathlib.Core.Path.{refl, sym, ◌∙◌}
use Rattle.cache_state.proofs.asked_ok.Goals as goal

pub returns-then-t-ge-EXCHANGE_LIMIT : goal.returns-then-t-ge-EXCHANGE_LIMIT
unfolding asked_right
returns-then-t-ge-EXCHANGE_LIMIT c = let t = c.args.t in λ kept. rw (le-ltb t.used exchange_limit c.if-t-ge-EXCHANGE_LIMIT.true) refl

pub returns-then-t : goal.returns-then-t
unfolding asked_right
returns-then-t c = let t = c.args.t in λ kept. rw (lt-ltb t.used exchange_limit c.if-t-ge-EXCHANGE_LIMIT.false, lt-leb t.exchange t.used c.if-t.true) refl

pub returns-then-t-2 : goal.returns-then-t-2
unfolding asked_right
returns-then-t-2 c = let t = c.args.t in λ kept. rw (lt-ltb t.used exchange_limit c.if-t-ge-EXCHANGE_LIMIT.false, le-leb t.exchange t.used c.if-t.false, lt-leb t.unknown t.used c.if-t-2.true) refl

pub returns-then-t-gt-STATUS : goal.returns-then-t-gt-STATUS
unfolding asked_right
returns-then-t-gt-STATUS c = let t = c.args.t in λ kept. rw (lt-ltb t.used exchange_limit c.if-t-ge-EXCHANGE_LIMIT.false, le-leb t.exchange t.used c.if-t.false, le-leb t.unknown t.used c.if-t-2.false, lt-leb t.stage 4 c.if-t-gt-STATUS.true) refl

pub returns-then-t-gt-MAX_MESSAGE : goal.returns-then-t-gt-MAX_MESSAGE
unfolding asked_right
returns-then-t-gt-MAX_MESSAGE c = let t = c.args.t in λ kept. rw (lt-ltb t.used exchange_limit c.if-t-ge-EXCHANGE_LIMIT.false, le-leb t.exchange t.used c.if-t.false, le-leb t.unknown t.used c.if-t-2.false, le-leb t.stage 4 c.if-t-gt-STATUS.false, lt-leb t.len 1032 c.if-t-gt-MAX_MESSAGE.true) refl

pub returns-then-not-is_open : goal.returns-then-not-is_open
unfolding asked_right
returns-then-not-is_open c = let t = c.args.t in λ kept. rw (lt-ltb t.used exchange_limit c.if-t-ge-EXCHANGE_LIMIT.false, le-leb t.exchange t.used c.if-t.false, le-leb t.unknown t.used c.if-t-2.false, le-leb t.stage 4 c.if-t-gt-STATUS.false, le-leb t.len 1032 c.if-t-gt-MAX_MESSAGE.false, sym c.is_open.ensures ∙ c.if-not-is_open.true) refl

pub returns : goal.returns
unfolding asked_right
returns c = let t = c.args.t in λ kept. rw (lt-ltb t.used exchange_limit c.if-t-ge-EXCHANGE_LIMIT.false, le-leb t.exchange t.used c.if-t.false, le-leb t.unknown t.used c.if-t-2.false, le-leb t.stage 4 c.if-t-gt-STATUS.false, le-leb t.len 1032 c.if-t-gt-MAX_MESSAGE.false, sym c.is_open.ensures ∙ c.if-not-is_open.false) (c.open_ok.ensures kept)
