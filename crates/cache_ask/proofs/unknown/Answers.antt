use Rattle.cache_state.specs.declared.CacheStanding.{CacheStanding}
use Rattle.cache_state.specs.declared.CacheState.{CacheState}
use Rattle.cache_state.specs.Words.{words_right, standing_in, state_with}
use Rattle.cache_state.specs.State.{cache_right}
use borrow.Author.Tests.{eq-eqb, ne_eqb}
use mathlib.Core.List.{List}
use mathlib.Core.Bool.{true, ◌&&◌}
use Prim.Native.Nat.{ℕ}
use mathlib.Core.Path.{◌≡◌, refl, sym, subst, ◌∙◌}
use Rattle.cache_ask.proofs.SaidLaws.{unknown-right, unknown-broken}
use Rattle.cache_ask.specs.Ask.{AnswersUnknown}
use Rattle.cache_ask.specs.declared.Abandoned.{Abandoned}
use Rattle.cache_ask.proofs.unknown.Goals as goal
use Rattle.cache_ask.proofs.unknown.Goals.{After-cache_ok, Else-not-cache_ok, Start}

-- the state that is lent, where t was read from its words
abbrev lent : Start → CacheStanding → List ℕ → CacheState
lent s t kept = state_with s.args.clusters.now s.args.keys.now s.args.versions.now s.args.kinds.now s.args.words.now s.args.order.now s.args.lengths.now t kept

as_read : (c : After-cache_ok) (kept : List ℕ) {r : Abandoned} → AnswersUnknown c.args.asked.now c.args.page.now (lent (goal.at.After-cache_ok c).Start c.read_standing-t.result kept) r → AnswersUnknown c.args.asked.now c.args.page.now (lent (goal.at.After-cache_ok c).Start (standing_in c.args.asked.now) kept) r
as_read c kept {r} k = subst (λ (t : CacheStanding). AnswersUnknown c.args.asked.now c.args.page.now (lent (goal.at.After-cache_ok c).Start t kept) r) c.read_standing-t.ensures.value k

-- it keeps the rules
kept-rules : (c : Else-not-cache_ok) (kept : List ℕ) → (words_right c.args.asked.now && cache_right c.args.page.now (lent (goal.at.Else-not-cache_ok c).Start c.read_standing-t.result kept)) ≡ true
kept-rules c kept = sym (c.cache_ok.ensures kept) ∙ c.if-not-cache_ok.false

pub returns-then-not-cache_ok : goal.returns-then-not-cache_ok
returns-then-not-cache_ok c = let a = c.args in λ kept. as_read (goal.at.returns-then-not-cache_ok c).After-cache_ok kept (unknown-broken a.asked.now a.page.now (lent (goal.at.returns-then-not-cache_ok c).Start c.read_standing-t.result kept) (sym (c.cache_ok.ensures kept) ∙ c.if-not-cache_ok.true))

pub returns-then-t-eq0 : goal.returns-then-t-eq0
returns-then-t-eq0 c = let a = c.args in λ kept. as_read (goal.at.returns-then-t-eq0 c).After-cache_ok kept (unknown-right a.asked.now a.page.now (lent (goal.at.returns-then-t-eq0 c).Start c.read_standing-t.result kept) (kept-rules (goal.at.returns-then-t-eq0 c).Else-not-cache_ok kept) (rw (eq-eqb _ _ c.if-t-eq0.true) refl))

pub returns : goal.returns
returns c = let a = c.args in λ kept. as_read (goal.at.returns c).After-cache_ok kept (unknown-right a.asked.now a.page.now (lent (goal.at.returns c).Start c.read_standing-t.result kept) (kept-rules (goal.at.returns c).Else-not-cache_ok kept) (rw (ne_eqb _ _ c.if-t-eq0.false) refl))
