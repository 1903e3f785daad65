use Rattle.cache_state.specs.declared.CacheStanding.{CacheStanding}
use Rattle.cache_state.specs.declared.CacheState.{CacheState}
use Rattle.cache_state.specs.Words.{words_right, standing_in, state_with}
use Rattle.cache_state.specs.State.{cache_right}
use Rattle.node_schema.proofs.BoolLaws.{right}
use mathlib.Core.List.{List, []}
use mathlib.Core.Bool.{true, ◌&&◌}
use Prim.Native.Nat.{ℕ}
use mathlib.Core.Path.{◌≡◌, sym, subst, ◌∙◌}
use Rattle.cache_ask.proofs.SaidLaws.{whole-right, whole-broken}
use Rattle.cache_ask.specs.Ask.{AnswersWhole}
use Rattle.cache_ask.specs.declared.Whole.{Whole}
use Rattle.cache_state.proofs.StateLaws.{right-bounded}
use Rattle.cache_ask.proofs.coherent.Goals as goal
use Rattle.cache_ask.proofs.coherent.Goals.{After-cache_ok, Else-not-cache_ok, Start}

-- the state that is lent, where t was read from its words
abbrev lent : Start → CacheStanding → List ℕ → CacheState
lent s t kept = state_with s.args.clusters.now s.args.keys.now s.args.versions.now s.args.kinds.now s.args.words.now s.args.order.now s.args.lengths.now t kept

as_read : (c : After-cache_ok) (kept : List ℕ) {r : Whole} → AnswersWhole c.args.asked.now c.args.page.now (lent (goal.at.After-cache_ok c).Start c.read_standing-t.result kept) c.args.endpoint c.args.cluster r → AnswersWhole c.args.asked.now c.args.page.now (lent (goal.at.After-cache_ok c).Start (standing_in c.args.asked.now) kept) c.args.endpoint c.args.cluster r
as_read c kept {r} k = subst (λ (t : CacheStanding). AnswersWhole c.args.asked.now c.args.page.now (lent (goal.at.After-cache_ok c).Start t kept) c.args.endpoint c.args.cluster r) c.read_standing-t.ensures.value k

-- it keeps the rules
kept-rules : (c : Else-not-cache_ok) (kept : List ℕ) → (words_right c.args.asked.now && cache_right c.args.page.now (lent (goal.at.Else-not-cache_ok c).Start c.read_standing-t.result kept)) ≡ true
kept-rules c kept = sym (c.cache_ok.ensures kept) ∙ c.if-not-cache_ok.false

pub returns-then-not-cache_ok : goal.returns-then-not-cache_ok
returns-then-not-cache_ok c = let a = c.args in λ kept. as_read (goal.at.returns-then-not-cache_ok c).After-cache_ok kept (whole-broken a.asked.now a.page.now (lent (goal.at.returns-then-not-cache_ok c).Start c.read_standing-t.result kept) a.endpoint a.cluster (sym (c.cache_ok.ensures kept) ∙ c.if-not-cache_ok.true))

pub whole_of-requires : goal.whole_of-requires
whole_of-requires c = let a = c.args in right-bounded a.page.now (lent (goal.at.whole_of-requires c).Start c.read_standing-t.result []) (right (words_right a.asked.now) _ (kept-rules (c) []))

pub returns : goal.returns
returns c = let a = c.args in λ kept. as_read (goal.at.returns c).After-cache_ok kept (whole-right a.asked.now a.page.now (lent (goal.at.returns c).Start c.read_standing-t.result kept) a.endpoint a.cluster (kept-rules (goal.at.returns c).Else-not-cache_ok kept) (c.whole_of.ensures a.kinds.now a.words.now a.lengths.now))
