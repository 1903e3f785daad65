use Rattle.cache_receive.specs.declared.Opened.{Opened}
use Rattle.cache_receive.specs.Receive.{takes_part}
use Rattle.cache_receive.specs.Steps.{opened_of, by_reply}
use Rattle.cache_receive.proofs.OpenLaws.{Open, shut-as, is_open_lem, takes-report, takes-reply, payload-of}
use Rattle.cache_state.specs.declared.CacheStanding.{CacheStanding}
use Rattle.cache_state.specs.State.{cache_right}
use Rattle.cache_state.specs.Words.{state_with, state_in}
use Rattle.cache_state.specs.Reaction.{unsent}
use Rattle.cache_state.proofs.ReactLaws.{same-reaction, refused_as}
use lib.ListN.{length, drop, length-drop}
use native.Mathlib.Omega.{arith}
use Prim.Native.Nat.{ℕ}
use mathlib.Core.Bool.{true}
use mathlib.Core.Path.{◌≡◌, sym, ap, subst, ◌∙◌}
use Rattle.cache_receive.proofs.receive.Goals as goal
use Rattle.cache_receive.proofs.receive.Goals.{After-open_message-x, Else-x-ne-DONE}

-- what was told is told of the state that is lent
told : (c : After-open_message-x) → let a = c.args in c.open_message-x.result ≡ opened_of a.asked.now a.page.now (state_in a.clusters.now a.keys.now a.versions.now a.kinds.now a.words.now a.order.now a.lengths.now a.asked.now a.kept.now) a.message.now (length a.out.now)
told c = let a = c.args in c.open_message-x.ensures a.kept.now ∙ ap (λ (u : CacheStanding). opened_of a.asked.now a.page.now (state_with a.clusters.now a.keys.now a.versions.now a.kinds.now a.words.now a.order.now a.lengths.now u a.kept.now) a.message.now (length a.out.now)) c.read_standing-t.ensures.value

-- a message that is taken
open-here : (c : Else-x-ne-DONE) → let a = c.args in Open a.asked.now a.page.now (state_in a.clusters.now a.keys.now a.versions.now a.kinds.now a.words.now a.order.now a.lengths.now a.asked.now a.kept.now) a.message.now (length a.out.now) c.open_message-x.result.opcode
open-here c =
    let a = c.args in
    let e = (let a = c.args in c.open_message-x.ensures a.kept.now ∙ ap (λ (u : CacheStanding). opened_of a.asked.now a.page.now (state_with a.clusters.now a.keys.now a.versions.now a.kinds.now a.words.now a.order.now a.lengths.now u a.kept.now) a.message.now (length a.out.now)) c.read_standing-t.ensures.value) in
    subst (λ (k : ℕ). Open a.asked.now a.page.now (state_in a.clusters.now a.keys.now a.versions.now a.kinds.now a.words.now a.order.now a.lengths.now a.asked.now a.kept.now) a.message.now (length a.out.now) k) (sym (ap (λ (o : Opened). o.opcode) e)) (is_open_lem a.asked.now a.page.now (state_in a.clusters.now a.keys.now a.versions.now a.kinds.now a.words.now a.order.now a.lengths.now a.asked.now a.kept.now) a.message.now (length a.out.now) (sym (ap (λ (o : Opened). o.number) e) ∙ c.if-x-ne-DONE.false))

pub returns-then-x-ne-DONE : goal.returns-then-x-ne-DONE
returns-then-x-ne-DONE c = let a = c.args in same-reaction (shut-as a.asked.now a.page.now (state_in a.clusters.now a.keys.now a.versions.now a.kinds.now a.words.now a.order.now a.lengths.now a.asked.now a.kept.now) a.message.now (length a.out.now) (ap (λ (o : Opened). o.number) (told (goal.at.returns-then-x-ne-DONE c).After-open_message-x)) c.if-x-ne-DONE.true) (refused_as a.clusters.now a.keys.now a.versions.now a.kinds.now a.words.now a.order.now a.lengths.now a.asked.now a.kept.now a.page.now c.refuse.ensures)

pub slice_bounds-payload-count : goal.slice_bounds-payload-count
slice_bounds-payload-count c = (open-here (c)).long

pub slice_bounds-payload-start : goal.slice_bounds-payload-start
slice_bounds-payload-start c = (open-here (c)).long

pub take_report-requires : goal.take_report-requires
take_report-requires c = let a = c.args in let o = open-here (goal.at.take_report-requires c).Else-x-ne-DONE in (c.read_standing-t.ensures.value, (o.words, (c.read_standing-t.ensures.whole, (subst (λ (u : CacheStanding). cache_right a.page.now (state_with a.clusters.now a.keys.now a.versions.now a.kinds.now a.words.now a.order.now a.lengths.now u a.kept.now) ≡ true) (sym c.read_standing-t.ensures.value) o.cache, (omega (arith, ap length (payload-of a.message.now), length-drop 8 a.message.now, o.short), o.large)))))

pub returns-then-x-eq-REPORT : goal.returns-then-x-eq-REPORT
returns-then-x-eq-REPORT c = let a = c.args in let o = open-here (goal.at.returns-then-x-eq-REPORT c).Else-x-ne-DONE in same-reaction (o.taken ∙ takes-report a.page.now (state_in a.clusters.now a.keys.now a.versions.now a.kinds.now a.words.now a.order.now a.lengths.now a.asked.now a.kept.now) (drop 8 a.message.now) c.if-x-eq-REPORT.true ∙ (λ j. takes_part a.page.now (state_with a.clusters.now a.keys.now a.versions.now a.kinds.now a.words.now a.order.now a.lengths.now (sym c.read_standing-t.ensures.value j) a.kept.now) (sym (payload-of a.message.now) j))) c.take_report.ensures

pub take_reply-requires : goal.take_reply-requires
take_reply-requires c = let o = open-here (goal.at.take_reply-requires c).Else-x-ne-DONE in (c.read_standing-t.ensures.value, (o.words, c.read_standing-t.ensures.whole))

pub returns : goal.returns
returns c = let a = c.args in let o = open-here (goal.at.returns c).Else-x-ne-DONE in same-reaction (o.taken ∙ takes-reply a.page.now (state_in a.clusters.now a.keys.now a.versions.now a.kinds.now a.words.now a.order.now a.lengths.now a.asked.now a.kept.now) c.open_message-x.result.opcode (drop 8 a.message.now) c.if-x-eq-REPORT.false ∙ (λ j. unsent (by_reply (state_with a.clusters.now a.keys.now a.versions.now a.kinds.now a.words.now a.order.now a.lengths.now (sym c.read_standing-t.ensures.value j) a.kept.now) c.open_message-x.result.opcode (sym (payload-of a.message.now) j)) a.page.now)) (c.take_reply.ensures a.clusters.now a.keys.now a.versions.now a.kinds.now a.words.now a.order.now a.lengths.now a.kept.now a.page.now a.out.now)
