use Rattle.std.specs.Prelude.{Some}
use Rattle.cache_receive.specs.Steps.{opened_in}
use Rattle.im_envelope.specs.Envelope.{max_message}
use Rattle.im_envelope.specs.Envelope.{envelope_in}
use lib.ListN.{length}
use borrow.Author.Tests.{le-leb, lt-leb}
use mathlib.Core.Path.{◌≡◌, refl, sym, ◌∙◌}
use Rattle.cache_receive.proofs.open_envelope.Goals as goal
use Rattle.cache_receive.proofs.open_envelope.Goals.{In-Some}

-- an envelope that was read
whole : (c : In-Some) → envelope_in c.args.message.now ≡ Some c.in-Some.e
whole c = sym c.envelope_of.ensures ∙ c.in-Some.is

pub returns-in_default : goal.returns-in_default
unfolding opened_in
returns-in_default c = λ kept. rw (sym c.envelope_of.ensures ∙ c.in_default.is) c.shut.ensures

pub returns-then-message-gt-MAX_MESSAGE : goal.returns-then-message-gt-MAX_MESSAGE
unfolding opened_in
returns-then-message-gt-MAX_MESSAGE c = λ kept. rw (whole (goal.at.returns-then-message-gt-MAX_MESSAGE c).In-Some, lt-leb (length c.args.message.now) max_message c.if-message-gt-MAX_MESSAGE.true) c.shut-then-message-gt-MAX_MESSAGE.ensures

pub returns-then-not-is_for_cache : goal.returns-then-not-is_for_cache
unfolding opened_in
returns-then-not-is_for_cache c = λ kept. rw (whole (goal.at.returns-then-not-is_for_cache c).In-Some, le-leb (length c.args.message.now) max_message c.if-message-gt-MAX_MESSAGE.false, sym c.is_for_cache.ensures ∙ c.if-not-is_for_cache.true) c.shut-then-not-is_for_cache.ensures

pub returns-then-not-is_awaited : goal.returns-then-not-is_awaited
unfolding opened_in
returns-then-not-is_awaited c = λ kept. rw (whole (goal.at.returns-then-not-is_awaited c).In-Some, le-leb (length c.args.message.now) max_message c.if-message-gt-MAX_MESSAGE.false, sym c.is_for_cache.ensures ∙ c.if-not-is_for_cache.false, sym (c.is_awaited.ensures kept) ∙ c.if-not-is_awaited.true) c.shut-then-not-is_awaited.ensures

pub returns : goal.returns
unfolding opened_in
returns c = λ kept. rw (whole (goal.at.returns c).In-Some, le-leb (length c.args.message.now) max_message c.if-message-gt-MAX_MESSAGE.false, sym c.is_for_cache.ensures ∙ c.if-not-is_for_cache.false, sym (c.is_awaited.ensures kept) ∙ c.if-not-is_awaited.false) refl
