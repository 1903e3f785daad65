use mathlib.Core.Path.{◌≡◌, sym, ap, subst, ◌∙◌}
use mathlib.Core.Bool.{true}
use Prim.Native.Nat.{◌+◌, ◌-◌, ◌≤◌, ◌<◌}
use native.Mathlib.Omega.{arith}
use lib.ListN.{length}
use Rattle.im_writer.specs.Envelope.{exchange_limit}
use Rattle.cache_state.specs.declared.CacheStanding.{CacheStanding}
use Rattle.cache_state.specs.Words.{state_with, state_in}
use Rattle.tlv_reader.specs.Value.{datum_in}
use Rattle.im_writer.specs.Envelope.{cache_edition}
use Rattle.cache_messages.specs.Messages.{write_message}
use Rattle.cache_state.specs.Begin.{asking, sendable, begins_write, unready}
use Rattle.cache_state.proofs.BeginLaws.{sendable-fits, Ready, not-ready, is-ready, ready-as}
use Rattle.cache_state.proofs.ReactLaws.{same-reaction, stored-as, refused_as, ends-within, message-length, sent-as}
use Rattle.cache_state.proofs.begin.begin_write.Goals as goal
use Rattle.cache_state.proofs.begin.begin_write.Goals.{After-cannot_begin-number, After-put_write-end, After-read_standing-t, Else-not-can_write, Else-number-ne-DONE}

-- what was tested is the state that is lent
tested : (c : After-cannot_begin-number) → let a = c.args in c.cannot_begin-number.result ≡ unready a.asked.now a.page.now (state_in a.clusters.now a.keys.now a.versions.now a.kinds.now a.words.now a.order.now a.lengths.now a.asked.now a.kept.now) (length a.out.now)
tested c = let a = c.args in c.cannot_begin-number.ensures a.kept.now ∙ ap (λ (t : CacheStanding). unready a.asked.now a.page.now (state_with a.clusters.now a.keys.now a.versions.now a.kinds.now a.words.now a.order.now a.lengths.now t a.kept.now) (length a.out.now)) c.read_standing-t.ensures.value

-- a request can be begun
ready : (c : Else-number-ne-DONE) → let a = c.args in Ready a.asked.now a.page.now (state_in a.clusters.now a.keys.now a.versions.now a.kinds.now a.words.now a.order.now a.lengths.now a.asked.now a.kept.now) (length a.out.now)
ready c = let a = c.args in is-ready a.asked.now a.page.now (state_in a.clusters.now a.keys.now a.versions.now a.kinds.now a.words.now a.order.now a.lengths.now a.asked.now a.kept.now) (length a.out.now) (sym ((let a = c.args in c.cannot_begin-number.ensures a.kept.now ∙ ap (λ (t : CacheStanding). unready a.asked.now a.page.now (state_with a.clusters.now a.keys.now a.versions.now a.kinds.now a.words.now a.order.now a.lengths.now t a.kept.now) (length a.out.now)) c.read_standing-t.ensures.value)) ∙ c.if-number-ne-DONE.false)

used-here : (c : Else-number-ne-DONE) → c.read_standing-t.result.used < exchange_limit - 1
used-here c = subst (λ (t : CacheStanding). t.used < exchange_limit - 1) (sym c.read_standing-t.ensures.value) (ready c).used

-- the value can be written
value-here : (c : Else-not-can_write) → let a = c.args in sendable a.src.now a.new ≡ true
value-here c = sym c.can_write.ensures ∙ c.if-not-can_write.false

-- the message that is meant, and that it has room
message-is : (c : After-read_standing-t) → let a = c.args in write_message cache_edition (c.read_standing-t.result.used + 1) a.given a.version a.endpoint a.cluster a.attribute (datum_in a.src.now a.new) ≡ write_message cache_edition ((state_in a.clusters.now a.keys.now a.versions.now a.kinds.now a.words.now a.order.now a.lengths.now a.asked.now a.kept.now).asked.used + 1) a.given a.version a.endpoint a.cluster a.attribute (datum_in a.src.now a.new)
message-is c = let a = c.args in ap (λ (t : CacheStanding). write_message cache_edition (t.used + 1) a.given a.version a.endpoint a.cluster a.attribute (datum_in a.src.now a.new)) c.read_standing-t.ensures.value

room-here : (c : After-put_write-end) → c.put_write-end.result ≤ length c.args.out.now
room-here c = omega (arith, c.put_write-end.ensures.1, ((let a = c.args in is-ready a.asked.now a.page.now (state_in a.clusters.now a.keys.now a.versions.now a.kinds.now a.words.now a.order.now a.lengths.now a.asked.now a.kept.now) (length a.out.now) (sym ((let a = c.args in c.cannot_begin-number.ensures a.kept.now ∙ ap (λ (t : CacheStanding). unready a.asked.now a.page.now (state_with a.clusters.now a.keys.now a.versions.now a.kinds.now a.words.now a.order.now a.lengths.now t a.kept.now) (length a.out.now)) c.read_standing-t.ensures.value)) ∙ c.if-number-ne-DONE.false))).large)

pub returns-then-number-ne-DONE : goal.returns-then-number-ne-DONE
unfolding begins_write
returns-then-number-ne-DONE c = let a = c.args in same-reaction (not-ready a.asked.now a.page.now (state_in a.clusters.now a.keys.now a.versions.now a.kinds.now a.words.now a.order.now a.lengths.now a.asked.now a.kept.now) (length a.out.now) (tested (goal.at.returns-then-number-ne-DONE c).After-cannot_begin-number) c.if-number-ne-DONE.true _) (refused_as a.clusters.now a.keys.now a.versions.now a.kinds.now a.words.now a.order.now a.lengths.now a.asked.now a.kept.now a.page.now c.refuse.ensures)

pub returns-then-not-can_write : goal.returns-then-not-can_write
unfolding begins_write
returns-then-not-can_write c = let a = c.args in rw (sym c.can_write.ensures ∙ c.if-not-can_write.true) (same-reaction (ready-as a.asked.now a.page.now (state_in a.clusters.now a.keys.now a.versions.now a.kinds.now a.words.now a.order.now a.lengths.now a.asked.now a.kept.now) (length a.out.now) (ready (goal.at.returns-then-not-can_write c).Else-number-ne-DONE) _) (refused_as a.clusters.now a.keys.now a.versions.now a.kinds.now a.words.now a.order.now a.lengths.now a.asked.now a.kept.now a.page.now c.refuse-then-not-can_write.ensures))

pub overflow_add-t : goal.overflow_add-t
overflow_add-t c = omega (arith, used-here (goal.at.overflow_add-t c).Else-number-ne-DONE)

pub put_write-end-requires : goal.put_write-end-requires
put_write-end-requires c = let a = c.args in let f = sendable-fits a.src.now a.new (value-here (goal.at.put_write-end-requires c).Else-not-can_write) in (f.inside, (f.short, (omega arith, (omega (arith, used-here (goal.at.put_write-end-requires c).Else-number-ne-DONE), (ready (goal.at.put_write-end-requires c).Else-number-ne-DONE).large))))

pub slice_bounds-sent-end : goal.slice_bounds-sent-end
slice_bounds-sent-end c = ends-within c.put_write-end.ensures.0 (room-here (goal.at.slice_bounds-sent-end c).After-put_write-end)

pub ask-requires : goal.ask-requires
ask-requires c = (c.read_standing-t.ensures.value, ((ready (goal.at.ask-requires c).Else-number-ne-DONE).words, (c.read_standing-t.ensures.whole, (omega (arith, used-here (goal.at.ask-requires c).Else-number-ne-DONE), omega (arith, message-length c.put_write-end.ensures.0 (room-here (goal.at.ask-requires c).After-put_write-end), c.put_write-end.ensures.1)))))

pub returns : goal.returns
unfolding begins_write
returns c = let a = c.args in let s = (state_in a.clusters.now a.keys.now a.versions.now a.kinds.now a.words.now a.order.now a.lengths.now a.asked.now a.kept.now) in rw (value-here (goal.at.returns c).Else-not-can_write) (same-reaction (ready-as a.asked.now a.page.now (state_in a.clusters.now a.keys.now a.versions.now a.kinds.now a.words.now a.order.now a.lengths.now a.asked.now a.kept.now) (length a.out.now) (ready (goal.at.returns c).Else-number-ne-DONE) _) (sent-as (stored-as (message-is (goal.at.returns c).After-read_standing-t) c.put_write-end.ensures.0) (room-here (goal.at.returns c).After-put_write-end) (λ m. asking s 2 a.endpoint a.cluster a.attribute m) a.page.now c.ask.ensures.value (c.ask.ensures.left a.clusters.now a.keys.now a.versions.now a.kinds.now a.words.now a.order.now a.lengths.now)))
