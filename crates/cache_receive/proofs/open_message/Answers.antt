use Rattle.cache_receive.specs.Steps.{opened_of}
use Rattle.im_envelope.specs.Envelope.{max_message}
use borrow.Author.Tests.{lt-ltb, le-ltb}
use mathlib.Core.Path.{sym, ◌∙◌}
use Rattle.cache_receive.proofs.open_message.Goals as goal

pub returns-then-not-cache_ok : goal.returns-then-not-cache_ok
unfolding opened_of
returns-then-not-cache_ok c = λ kept. rw (sym (c.cache_ok.ensures kept) ∙ c.if-not-cache_ok.true) c.shut.ensures

pub returns-then-room-lt-MAX_MESSAGE : goal.returns-then-room-lt-MAX_MESSAGE
unfolding opened_of
returns-then-room-lt-MAX_MESSAGE c = λ kept. rw (sym (c.cache_ok.ensures kept) ∙ c.if-not-cache_ok.false, lt-ltb c.args.room max_message c.if-room-lt-MAX_MESSAGE.true) c.shut-then-room-lt-MAX_MESSAGE.ensures

pub returns : goal.returns
unfolding opened_of
returns c = λ kept. rw (sym (c.cache_ok.ensures kept) ∙ c.if-not-cache_ok.false, le-ltb c.args.room max_message c.if-room-lt-MAX_MESSAGE.false) (c.open_envelope.ensures kept)
