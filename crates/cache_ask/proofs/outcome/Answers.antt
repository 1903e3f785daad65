use Rattle.cache_state.specs.declared.CacheStanding.{CacheStanding}
use Rattle.cache_state.specs.declared.CacheState.{CacheState}
use Rattle.cache_state.specs.Words.{words_right, standing_in, state_with}
use Rattle.cache_state.specs.State.{cache_right}
use Rattle.node_schema.proofs.BoolLaws.{left}
use borrow.Author.Tests.{eq-eqb, ne_eqb}
use mathlib.Core.List.{List, []}
use mathlib.Core.Bool.{true, ◌&&◌}
use Prim.Native.Nat.{ℕ, ◌<◌}
use mathlib.Core.Path.{◌≡◌, refl, sym, subst, ◌∙◌}
use Rattle.cache_ask.proofs.SaidLaws.{outcome-right, outcome-broken}
use Rattle.cache_ask.specs.Ask.{AnswersOutcome}
use Rattle.cache_ask.specs.declared.Ended.{Ended}
use Rattle.cache_state.proofs.WordLaws.{words_right_lem}
use native.Mathlib.Omega.{arith}
use Rattle.cache_ask.proofs.outcome.Goals as goal
use Rattle.cache_ask.proofs.outcome.Goals.{After-cache_ok, Else-not-cache_ok, Start}

-- the state that is lent, where t was read from its words
abbrev lent : Start → CacheStanding → List ℕ → CacheState
lent s t kept = state_with s.args.clusters.now s.args.keys.now s.args.versions.now s.args.kinds.now s.args.words.now s.args.order.now s.args.lengths.now t kept

as_read : (c : After-cache_ok) (kept : List ℕ) {r : Ended} → AnswersOutcome c.args.asked.now c.args.page.now (lent (goal.at.After-cache_ok c).Start c.read_standing-t.result kept) r → AnswersOutcome c.args.asked.now c.args.page.now (lent (goal.at.After-cache_ok c).Start (standing_in c.args.asked.now) kept) r
as_read c kept {r} k = subst (λ (t : CacheStanding). AnswersOutcome c.args.asked.now c.args.page.now (lent (goal.at.After-cache_ok c).Start t kept) r) c.read_standing-t.ensures.value k

-- it keeps the rules
kept-rules : (c : Else-not-cache_ok) (kept : List ℕ) → (words_right c.args.asked.now && cache_right c.args.page.now (lent (goal.at.Else-not-cache_ok c).Start c.read_standing-t.result kept)) ≡ true
kept-rules c kept = sym (c.cache_ok.ensures kept) ∙ c.if-not-cache_ok.false

-- a status has its width
narrow : (c : Else-not-cache_ok) → c.read_standing-t.result.status < 256
unfolding standing_in
narrow c = let w = c.args.asked.now in subst (λ (t : CacheStanding). t.status < 256) (sym c.read_standing-t.ensures.value) (words_right_lem w (left (words_right w) _ (kept-rules c []))).status

pub returns-then-not-cache_ok : goal.returns-then-not-cache_ok
returns-then-not-cache_ok c = let a = c.args in λ kept. as_read (goal.at.returns-then-not-cache_ok c).After-cache_ok kept (outcome-broken a.asked.now a.page.now (lent (goal.at.returns-then-not-cache_ok c).Start c.read_standing-t.result kept) (sym (c.cache_ok.ensures kept) ∙ c.if-not-cache_ok.true))

pub returns-then-t-eq-NONE : goal.returns-then-t-eq-NONE
returns-then-t-eq-NONE c = let a = c.args in λ kept. as_read (goal.at.returns-then-t-eq-NONE c).After-cache_ok kept (outcome-right a.asked.now a.page.now (lent (goal.at.returns-then-t-eq-NONE c).Start c.read_standing-t.result kept) (kept-rules (goal.at.returns-then-t-eq-NONE c).Else-not-cache_ok kept) (rw (eq-eqb _ _ c.if-t-eq-NONE.true) refl))

pub returns-then-t-eq-LAST_PART : goal.returns-then-t-eq-LAST_PART
returns-then-t-eq-LAST_PART c = let a = c.args in λ kept. as_read (goal.at.returns-then-t-eq-LAST_PART c).After-cache_ok kept (outcome-right a.asked.now a.page.now (lent (goal.at.returns-then-t-eq-LAST_PART c).Start c.read_standing-t.result kept) (kept-rules (goal.at.returns-then-t-eq-LAST_PART c).Else-not-cache_ok kept) (rw (ne_eqb _ _ c.if-t-eq-NONE.false, eq-eqb _ _ c.if-t-eq-LAST_PART.true) refl))

pub overflow_cast-result : goal.overflow_cast-result
overflow_cast-result c = omega (arith, narrow (goal.at.overflow_cast-result c).Else-not-cache_ok)

pub returns-then-t-eq-STATUS : goal.returns-then-t-eq-STATUS
returns-then-t-eq-STATUS c = let a = c.args in λ kept. as_read (goal.at.returns-then-t-eq-STATUS c).After-cache_ok kept (outcome-right a.asked.now a.page.now (lent (goal.at.returns-then-t-eq-STATUS c).Start c.read_standing-t.result kept) (kept-rules (goal.at.returns-then-t-eq-STATUS c).Else-not-cache_ok kept) (rw (ne_eqb _ _ c.if-t-eq-NONE.false, ne_eqb _ _ c.if-t-eq-LAST_PART.false, eq-eqb _ _ c.if-t-eq-STATUS.true) refl))

pub returns : goal.returns
returns c = let a = c.args in λ kept. as_read (goal.at.returns c).After-cache_ok kept (outcome-right a.asked.now a.page.now (lent (goal.at.returns c).Start c.read_standing-t.result kept) (kept-rules (goal.at.returns c).Else-not-cache_ok kept) (rw (ne_eqb _ _ c.if-t-eq-NONE.false, ne_eqb _ _ c.if-t-eq-LAST_PART.false, ne_eqb _ _ c.if-t-eq-STATUS.false) refl))
