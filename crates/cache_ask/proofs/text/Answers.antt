use Rattle.cache_ask.proofs.AskLaws.{no-entry, no_text, text-inside, text-of}
use Rattle.cache_ask.specs.Ask.{text_of_value, text_of_entry, text_shown}
use Rattle.cache_state.specs.declared.CacheState.{CacheState}
use Rattle.cache_state.specs.Words.{state_in}
use lib.ListN.{length, take, drop}
use native.Mathlib.Omega.{arith}
use mathlib.Core.List.{List, []}
use Prim.Native.Nat.{ℕ, ◌+◌, ◌-◌, ◌≤◌}
use mathlib.Core.Path.{◌≡◌, sym, ap, ◌∙◌}
use Rattle.cache_ask.proofs.text.Goals as goal
use Rattle.cache_ask.proofs.text.Goals.{After-entry, In-Text, Start}

-- the state that is lent
abbrev lent : Start → List ℕ → CacheState
lent s kept = state_in s.args.clusters.now s.args.keys.now s.args.versions.now s.args.kinds.now s.args.words.now s.args.order.now s.args.lengths.now s.args.asked.now kept

shown : (c : After-entry) (kept : List ℕ) → text_of_entry c.args.page.now c.entry.result ≡ text_shown c.args.asked.now c.args.page.now (lent (goal.at.After-entry c).Start kept) c.args.endpoint c.args.cluster c.args.attribute
shown c kept = text-of c.args.asked.now c.args.page.now (lent (goal.at.After-entry c).Start kept) c.args.endpoint c.args.cluster c.args.attribute (c.entry.ensures kept).answer

-- a text that is shown lies in the page
inside : (c : In-Text) → c.in-Text.start + c.in-Text.len ≤ length c.args.page.now
inside c = (text-inside c.args.asked.now c.args.page.now (lent (goal.at.In-Text c).Start []) c.args.endpoint c.args.cluster c.args.attribute (sym c.in-Here.is ∙ (c.entry.ensures []).answer) c.in-Text.is).0

pub returns-in_default : goal.returns-in_default
returns-in_default c = let a = c.args in λ kept. no-entry a.page.now c.entry.result c.in_default.not-Here ∙ shown (goal.at.returns-in_default c).After-entry kept

pub returns-in_default-v : goal.returns-in_default-v
returns-in_default-v c = let a = c.args in λ kept. no_text a.page.now c.in-Here.v c.in_default-v.not-Text ∙ ap (text_of_entry a.page.now) (sym c.in-Here.is) ∙ shown (goal.at.returns-in_default-v c).After-entry kept

pub overflow_add-result : goal.overflow_add-result
overflow_add-result c = omega (arith, inside (goal.at.overflow_add-result c).In-Text)

pub slice_bounds-result-end-2 : goal.slice_bounds-result-end-2
slice_bounds-result-end-2 c = omega (arith, inside (goal.at.slice_bounds-result-end-2 c).In-Text)

pub returns : goal.returns
returns c = let p = c.args.page.now in let x = c.in-Text.start in let n = c.in-Text.len in let q : (x + n) - x ≡ n = omega arith in λ kept. ap (λ (m : ℕ). take m (drop x p)) q ∙ ap (text_of_value p) (sym c.in-Text.is) ∙ ap (text_of_entry p) (sym c.in-Here.is) ∙ shown (goal.at.returns c).After-entry kept
