use mathlib.Core.Path.{◌≡◌, sym, ap, subst, ◌∙◌}
use Prim.Native.Nat.{◌+◌, ◌-◌, ◌≤◌, ◌<◌}
use native.Mathlib.Omega.{arith}
use lib.ListN.{length}
use Rattle.im_writer.specs.Envelope.{exchange_limit}
use Rattle.cache_state.specs.declared.CacheStanding.{CacheStanding}
use Rattle.cache_state.specs.Words.{held_in, state_with, state_in}
use Rattle.im_writer.specs.Envelope.{cache_edition}
use Rattle.cache_messages.specs.Filters.{Bounded, filters_of}
use Rattle.cache_messages.specs.Messages.{read_message}
use Rattle.cache_state.specs.Begin.{asking, begins_read, unready}
use Rattle.cache_state.proofs.StateLaws.{right-bounded}
use Rattle.cache_state.proofs.BeginLaws.{Ready, not-ready, is-ready, ready-as}
use Rattle.cache_state.proofs.ReactLaws.{same-reaction, stored-as, refused_as, ends-within, message-length, sent-as}
use Rattle.cache_state.proofs.begin.begin_read.Goals as goal
use Rattle.cache_state.proofs.begin.begin_read.Goals.{After-cannot_begin-number, After-put_read-end, After-read_standing-t, Else-number-ne-DONE}

-- what was tested is the state that is lent
tested : (c : After-cannot_begin-number) → let a = c.args in c.cannot_begin-number.result ≡ unready a.asked.now a.page.now (state_in a.clusters.now a.keys.now a.versions.now a.kinds.now a.words.now a.order.now a.lengths.now a.asked.now a.kept.now) (length a.out.now)
tested c = let a = c.args in c.cannot_begin-number.ensures a.kept.now ∙ ap (λ (t : CacheStanding). unready a.asked.now a.page.now (state_with a.clusters.now a.keys.now a.versions.now a.kinds.now a.words.now a.order.now a.lengths.now t a.kept.now) (length a.out.now)) c.read_standing-t.ensures.value

-- a request can be begun
ready : (c : Else-number-ne-DONE) → let a = c.args in Ready a.asked.now a.page.now (state_in a.clusters.now a.keys.now a.versions.now a.kinds.now a.words.now a.order.now a.lengths.now a.asked.now a.kept.now) (length a.out.now)
ready c = let a = c.args in is-ready a.asked.now a.page.now (state_in a.clusters.now a.keys.now a.versions.now a.kinds.now a.words.now a.order.now a.lengths.now a.asked.now a.kept.now) (length a.out.now) (sym ((let a = c.args in c.cannot_begin-number.ensures a.kept.now ∙ ap (λ (t : CacheStanding). unready a.asked.now a.page.now (state_with a.clusters.now a.keys.now a.versions.now a.kinds.now a.words.now a.order.now a.lengths.now t a.kept.now) (length a.out.now)) c.read_standing-t.ensures.value)) ∙ c.if-number-ne-DONE.false)

used-here : (c : Else-number-ne-DONE) → c.read_standing-t.result.used < exchange_limit - 1
used-here c = subst (λ (t : CacheStanding). t.used < exchange_limit - 1) (sym c.read_standing-t.ensures.value) (ready c).used

-- the message that is meant, and that it has room
message-is : (c : After-read_standing-t) → let a = c.args in let t = c.read_standing-t.result in read_message cache_edition (t.used + 1) (filters_of (held_in a.clusters.now a.keys.now a.versions.now a.kinds.now a.words.now a.order.now a.lengths.now t)) ≡ read_message cache_edition ((state_in a.clusters.now a.keys.now a.versions.now a.kinds.now a.words.now a.order.now a.lengths.now a.asked.now a.kept.now).asked.used + 1) (filters_of (state_in a.clusters.now a.keys.now a.versions.now a.kinds.now a.words.now a.order.now a.lengths.now a.asked.now a.kept.now).held)
message-is c = let a = c.args in ap (λ (t : CacheStanding). read_message cache_edition (t.used + 1) (filters_of (held_in a.clusters.now a.keys.now a.versions.now a.kinds.now a.words.now a.order.now a.lengths.now t))) c.read_standing-t.ensures.value

room-here : (c : After-put_read-end) → c.put_read-end.result ≤ length c.args.out.now
room-here c = omega (arith, c.put_read-end.ensures.1, ((let a = c.args in is-ready a.asked.now a.page.now (state_in a.clusters.now a.keys.now a.versions.now a.kinds.now a.words.now a.order.now a.lengths.now a.asked.now a.kept.now) (length a.out.now) (sym ((let a = c.args in c.cannot_begin-number.ensures a.kept.now ∙ ap (λ (t : CacheStanding). unready a.asked.now a.page.now (state_with a.clusters.now a.keys.now a.versions.now a.kinds.now a.words.now a.order.now a.lengths.now t a.kept.now) (length a.out.now)) c.read_standing-t.ensures.value)) ∙ c.if-number-ne-DONE.false))).large)

pub returns-then-number-ne-DONE : goal.returns-then-number-ne-DONE
unfolding begins_read
returns-then-number-ne-DONE c = let a = c.args in same-reaction (not-ready a.asked.now a.page.now (state_in a.clusters.now a.keys.now a.versions.now a.kinds.now a.words.now a.order.now a.lengths.now a.asked.now a.kept.now) (length a.out.now) (tested (goal.at.returns-then-number-ne-DONE c).After-cannot_begin-number) c.if-number-ne-DONE.true _) (refused_as a.clusters.now a.keys.now a.versions.now a.kinds.now a.words.now a.order.now a.lengths.now a.asked.now a.kept.now a.page.now c.refuse.ensures)

pub overflow_add-t : goal.overflow_add-t
overflow_add-t c = omega (arith, used-here (goal.at.overflow_add-t c).Else-number-ne-DONE)

pub put_read-end-requires : goal.put_read-end-requires
put_read-end-requires c = let a = c.args in let r = ready (goal.at.put_read-end-requires c).Else-number-ne-DONE in (subst (λ (t : CacheStanding). Bounded a.clusters.now a.keys.now a.versions.now a.order.now t.cluster_count t.count) (sym c.read_standing-t.ensures.value) (right-bounded a.page.now (state_in a.clusters.now a.keys.now a.versions.now a.kinds.now a.words.now a.order.now a.lengths.now a.asked.now a.kept.now) r.cache), (omega arith, (omega (arith, used-here (goal.at.put_read-end-requires c).Else-number-ne-DONE), r.large)))

pub slice_bounds-ask-end : goal.slice_bounds-ask-end
slice_bounds-ask-end c = let a = c.args in ends-within (c.put_read-end.ensures.0 a.kinds.now a.words.now a.lengths.now) (room-here (goal.at.slice_bounds-ask-end c).After-put_read-end)

pub ask-requires : goal.ask-requires
ask-requires c = let a = c.args in (c.read_standing-t.ensures.value, ((ready (goal.at.ask-requires c).Else-number-ne-DONE).words, (c.read_standing-t.ensures.whole, (omega (arith, used-here (goal.at.ask-requires c).Else-number-ne-DONE), omega (arith, message-length (c.put_read-end.ensures.0 a.kinds.now a.words.now a.lengths.now) (room-here (goal.at.ask-requires c).After-put_read-end), c.put_read-end.ensures.1)))))

pub returns : goal.returns
unfolding begins_read
returns c = let a = c.args in let s = (state_in a.clusters.now a.keys.now a.versions.now a.kinds.now a.words.now a.order.now a.lengths.now a.asked.now a.kept.now) in same-reaction (ready-as a.asked.now a.page.now (state_in a.clusters.now a.keys.now a.versions.now a.kinds.now a.words.now a.order.now a.lengths.now a.asked.now a.kept.now) (length a.out.now) (ready (goal.at.returns c).Else-number-ne-DONE) _) (sent-as (stored-as (message-is (goal.at.returns c).After-read_standing-t) (c.put_read-end.ensures.0 a.kinds.now a.words.now a.lengths.now)) (room-here (goal.at.returns c).After-put_read-end) (λ m. asking s 1 0 0 0 m) a.page.now c.ask.ensures.value (c.ask.ensures.left a.clusters.now a.keys.now a.versions.now a.kinds.now a.words.now a.order.now a.lengths.now))
