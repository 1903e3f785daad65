use mathlib.Core.Path.{◌≡◌, sym, ap, subst, ◌∙◌}
use mathlib.Core.Bool.{true, ◌&&◌}
use Prim.Native.Nat.{◌≤◌}
use native.Mathlib.Omega.{arith}
use lib.ListN.{length, take}
use borrow.Author.Tests.{lt-ltb, le-ltb}
use Rattle.cache_state.specs.declared.CacheStanding.{CacheStanding}
use Rattle.cache_state.specs.Words.{state_with, state_in}
use Rattle.base_octets.specs.Store.{store}
use Rattle.im_envelope.specs.Envelope.{max_message}
use Rattle.node_schema.proofs.BoolLaws.{left, right}
use Rattle.cache_state.specs.State.{is_open, cache_right}
use Rattle.cache_state.specs.Words.{words_right}
use Rattle.cache_state.specs.Begin.{resends}
use Rattle.cache_state.proofs.StateLaws.{right-asked, broken}
use Rattle.cache_state.proofs.ReactLaws.{same-reaction, refused_as, resent-as}
use Rattle.cache_state.proofs.begin.resend.Goals as goal
use Rattle.cache_state.proofs.begin.resend.Goals.{After-cache_ok, After-is_open, Else-not-cache_ok}

-- what was tested is the state that is lent
tested : (c : After-cache_ok) → let a = c.args in c.cache_ok.result ≡ (words_right a.asked.now && cache_right a.page.now (state_in a.clusters.now a.keys.now a.versions.now a.kinds.now a.words.now a.order.now a.lengths.now a.asked.now a.kept.now))
tested c = let a = c.args in c.cache_ok.ensures a.kept.now ∙ ap (λ (t : CacheStanding). words_right a.asked.now && cache_right a.page.now (state_with a.clusters.now a.keys.now a.versions.now a.kinds.now a.words.now a.order.now a.lengths.now t a.kept.now)) c.read_standing-t.ensures.value

-- it keeps the rules
right-here : (c : Else-not-cache_ok) → let a = c.args in (words_right a.asked.now && cache_right a.page.now (state_in a.clusters.now a.keys.now a.versions.now a.kinds.now a.words.now a.order.now a.lengths.now a.asked.now a.kept.now)) ≡ true
right-here c = sym ((let a = c.args in c.cache_ok.ensures a.kept.now ∙ ap (λ (t : CacheStanding). words_right a.asked.now && cache_right a.page.now (state_with a.clusters.now a.keys.now a.versions.now a.kinds.now a.words.now a.order.now a.lengths.now t a.kept.now)) c.read_standing-t.ensures.value)) ∙ c.if-not-cache_ok.false

len-here : (c : Else-not-cache_ok) → c.read_standing-t.result.len ≤ max_message
len-here c = let a = c.args in subst (λ (t : CacheStanding). t.len ≤ max_message) (sym c.read_standing-t.ensures.value) (right-asked a.page.now (state_in a.clusters.now a.keys.now a.versions.now a.kinds.now a.words.now a.order.now a.lengths.now a.asked.now a.kept.now) (right (words_right a.asked.now) (cache_right a.page.now (state_in a.clusters.now a.keys.now a.versions.now a.kinds.now a.words.now a.order.now a.lengths.now a.asked.now a.kept.now)) (right-here c))).len

opened : (c : After-is_open) → let a = c.args in c.is_open.result ≡ is_open (state_in a.clusters.now a.keys.now a.versions.now a.kinds.now a.words.now a.order.now a.lengths.now a.asked.now a.kept.now).asked.stage
opened c = c.is_open.ensures ∙ ap (λ (t : CacheStanding). is_open t.stage) c.read_standing-t.ensures.value

pub returns-then-not-cache_ok : goal.returns-then-not-cache_ok
unfolding resends
returns-then-not-cache_ok c = let a = c.args in same-reaction (broken a.asked.now a.page.now (state_in a.clusters.now a.keys.now a.versions.now a.kinds.now a.words.now a.order.now a.lengths.now a.asked.now a.kept.now) (sym (tested (goal.at.returns-then-not-cache_ok c).After-cache_ok) ∙ c.if-not-cache_ok.true) _) (refused_as a.clusters.now a.keys.now a.versions.now a.kinds.now a.words.now a.order.now a.lengths.now a.asked.now a.kept.now a.page.now c.refuse.ensures)

pub returns-then-out-lt-MAX_MESSAGE : goal.returns-then-out-lt-MAX_MESSAGE
unfolding resends
returns-then-out-lt-MAX_MESSAGE c = let a = c.args in rw (left (words_right a.asked.now) (cache_right a.page.now (state_in a.clusters.now a.keys.now a.versions.now a.kinds.now a.words.now a.order.now a.lengths.now a.asked.now a.kept.now)) (right-here (goal.at.returns-then-out-lt-MAX_MESSAGE c).Else-not-cache_ok), right (words_right a.asked.now) (cache_right a.page.now (state_in a.clusters.now a.keys.now a.versions.now a.kinds.now a.words.now a.order.now a.lengths.now a.asked.now a.kept.now)) (right-here (goal.at.returns-then-out-lt-MAX_MESSAGE c).Else-not-cache_ok), lt-ltb (length a.out.now) max_message c.if-out-lt-MAX_MESSAGE.true) (refused_as a.clusters.now a.keys.now a.versions.now a.kinds.now a.words.now a.order.now a.lengths.now a.asked.now a.kept.now a.page.now c.refuse-then-out-lt-MAX_MESSAGE.ensures)

pub returns-then-not-is_open : goal.returns-then-not-is_open
unfolding resends
returns-then-not-is_open c = let a = c.args in rw (left (words_right a.asked.now) (cache_right a.page.now (state_in a.clusters.now a.keys.now a.versions.now a.kinds.now a.words.now a.order.now a.lengths.now a.asked.now a.kept.now)) (right-here (goal.at.returns-then-not-is_open c).Else-not-cache_ok), right (words_right a.asked.now) (cache_right a.page.now (state_in a.clusters.now a.keys.now a.versions.now a.kinds.now a.words.now a.order.now a.lengths.now a.asked.now a.kept.now)) (right-here (goal.at.returns-then-not-is_open c).Else-not-cache_ok), le-ltb (length a.out.now) max_message c.if-out-lt-MAX_MESSAGE.false, sym (opened (goal.at.returns-then-not-is_open c).After-is_open) ∙ c.if-not-is_open.true) (refused_as a.clusters.now a.keys.now a.versions.now a.kinds.now a.words.now a.order.now a.lengths.now a.asked.now a.kept.now a.page.now c.refuse-then-not-is_open.ensures)

pub put_kept-requires : goal.put_kept-requires
put_kept-requires c = (len-here (goal.at.put_kept-requires c).Else-not-cache_ok, c.if-out-lt-MAX_MESSAGE.false)

pub returns : goal.returns
unfolding resends
returns c = let a = c.args in let e = c.read_standing-t.ensures.value in let k = c.put_kept.ensures in rw (left (words_right a.asked.now) (cache_right a.page.now (state_in a.clusters.now a.keys.now a.versions.now a.kinds.now a.words.now a.order.now a.lengths.now a.asked.now a.kept.now)) (right-here (goal.at.returns c).Else-not-cache_ok), right (words_right a.asked.now) (cache_right a.page.now (state_in a.clusters.now a.keys.now a.versions.now a.kinds.now a.words.now a.order.now a.lengths.now a.asked.now a.kept.now)) (right-here (goal.at.returns c).Else-not-cache_ok), le-ltb (length a.out.now) max_message c.if-out-lt-MAX_MESSAGE.false, sym (opened (goal.at.returns c).After-is_open) ∙ c.if-not-is_open.false) (resent-as a.clusters.now a.keys.now a.versions.now a.kinds.now a.words.now a.order.now a.lengths.now a.asked.now a.kept.now a.page.now (omega (arith, (right-asked a.page.now (state_in a.clusters.now a.keys.now a.versions.now a.kinds.now a.words.now a.order.now a.lengths.now a.asked.now a.kept.now) (right (words_right a.asked.now) (cache_right a.page.now (state_in a.clusters.now a.keys.now a.versions.now a.kinds.now a.words.now a.order.now a.lengths.now a.asked.now a.kept.now)) (right-here (goal.at.returns c).Else-not-cache_ok))).len, k.whole)) (λ j. record { number = 0; len = (e j).len }) (k.out_after ∙ ap (λ (t : CacheStanding). store a.out.now 0 (take t.len a.kept.now)) e))
