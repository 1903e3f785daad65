use Rattle.std.specs.Prelude.{Some}
use Rattle.cache_state.specs.declared.CacheStanding.{CacheStanding}
use Rattle.cache_state.specs.declared.CacheState.{CacheState}
use Rattle.cache_state.specs.Words.{words_right, standing_in, state_with}
use Rattle.cache_state.specs.State.{cache_right}
use Rattle.node_schema.proofs.BoolLaws.{right}
use mathlib.Core.List.{List, []}
use mathlib.Core.Bool.{true, ◌&&◌}
use Prim.Native.Nat.{ℕ}
use mathlib.Core.Path.{◌≡◌, refl, sym, ap, subst, ◌∙◌}
use Rattle.cache_ask.proofs.SaidLaws.{entry-right, entry-broken}
use Rattle.cache_ask.proofs.AskLaws.{right-ordered, entry_found, found_word, found-place}
use Rattle.cache_ask.specs.Ask.{entry_read, AnswersEntry}
use Rattle.cache_ask.specs.declared.EntryHeld.{EntryHeld}
use Rattle.cache_ask.specs.declared.EntryHeld.TheVariants as held
use Rattle.cache_entries.specs.Limits.{max_entries, no_version}
use Rattle.cache_entries.specs.Entries.{path_at}
use Rattle.tlv_reader.specs.declared.Value.{Value}
use lib.ListN.{get_or}
use borrow.Author.Tests.{lt-ltb, le-ltb}
use native.Mathlib.Omega.{arith}
use Prim.Native.Nat.{◌<◌}
use Rattle.cache_ask.proofs.entry.Goals as goal
use Rattle.cache_ask.proofs.entry.Goals.{After-cache_ok, Else-not-cache_ok, In-Some, Start}

-- the state that is lent, where t was read from its words
abbrev lent : Start → CacheStanding → List ℕ → CacheState
lent s t kept = state_with s.args.clusters.now s.args.keys.now s.args.versions.now s.args.kinds.now s.args.words.now s.args.order.now s.args.lengths.now t kept

as_read : (c : After-cache_ok) (kept : List ℕ) {r : EntryHeld} → AnswersEntry c.args.asked.now c.args.page.now (lent (goal.at.After-cache_ok c).Start c.read_standing-t.result kept) c.args.endpoint c.args.cluster c.args.attribute r → AnswersEntry c.args.asked.now c.args.page.now (lent (goal.at.After-cache_ok c).Start (standing_in c.args.asked.now) kept) c.args.endpoint c.args.cluster c.args.attribute r
as_read c kept {r} k = subst (λ (t : CacheStanding). AnswersEntry c.args.asked.now c.args.page.now (lent (goal.at.After-cache_ok c).Start t kept) c.args.endpoint c.args.cluster c.args.attribute r) c.read_standing-t.ensures.value k

-- it keeps the rules
kept-rules : (c : Else-not-cache_ok) (kept : List ℕ) → (words_right c.args.asked.now && cache_right c.args.page.now (lent (goal.at.Else-not-cache_ok c).Start c.read_standing-t.result kept)) ≡ true
kept-rules c kept = sym (c.cache_ok.ensures kept) ∙ c.if-not-cache_ok.false

ruled : (c : Else-not-cache_ok) (kept : List ℕ) → cache_right c.args.page.now (lent (goal.at.Else-not-cache_ok c).Start c.read_standing-t.result kept) ≡ true
ruled c kept = right (words_right c.args.asked.now) _ (kept-rules c kept)

-- the entry that was found
there : (c : In-Some) → path_at (lent (goal.at.In-Some c).Start c.read_standing-t.result []).held c.args.endpoint c.args.cluster c.args.attribute ≡ Some c.in-Some.i
there c = sym (c.path_at.ensures c.args.versions.now c.args.kinds.now c.args.words.now c.args.lengths.now) ∙ c.in-Some.is

below : (c : In-Some) → c.in-Some.i < max_entries
below c = entry_found c.args.page.now (lent (goal.at.In-Some c).Start c.read_standing-t.result []) (ruled (goal.at.In-Some c).Else-not-cache_ok []) c.args.endpoint c.args.cluster c.args.attribute c.in-Some.i (there c)

pub returns-then-not-cache_ok : goal.returns-then-not-cache_ok
returns-then-not-cache_ok c = let a = c.args in λ kept. as_read (goal.at.returns-then-not-cache_ok c).After-cache_ok kept (entry-broken a.asked.now a.page.now (lent (goal.at.returns-then-not-cache_ok c).Start c.read_standing-t.result kept) a.endpoint a.cluster a.attribute (sym (c.cache_ok.ensures kept) ∙ c.if-not-cache_ok.true))

pub path_at-requires : goal.path_at-requires
path_at-requires c = right-ordered c.args.page.now (lent (goal.at.path_at-requires c).Start c.read_standing-t.result []) (ruled (c) [])

pub returns-in_default : goal.returns-in_default
returns-in_default c = let a = c.args in λ kept. as_read (goal.at.returns-in_default c).After-cache_ok kept (entry-right a.asked.now a.page.now (lent (goal.at.returns-in_default c).Start c.read_standing-t.result kept) a.endpoint a.cluster a.attribute (kept-rules (goal.at.returns-in_default c).Else-not-cache_ok kept) (sym (ap (entry_read (lent (goal.at.returns-in_default c).Start c.read_standing-t.result kept).held) (sym (c.path_at.ensures a.versions.now a.kinds.now a.words.now a.lengths.now) ∙ c.in_default.is))))

pub offset_bounds-versions-i : goal.offset_bounds-versions-i
offset_bounds-versions-i c = omega (arith, below (goal.at.offset_bounds-versions-i c).In-Some)

pub bounds-versions-i : goal.bounds-versions-i
bounds-versions-i c = omega (arith, below (goal.at.bounds-versions-i c).In-Some)

pub returns-then-version-ge-NO_VERSION : goal.returns-then-version-ge-NO_VERSION
returns-then-version-ge-NO_VERSION c = let a = c.args in λ kept. as_read (goal.at.returns-then-version-ge-NO_VERSION c).After-cache_ok kept (entry-right a.asked.now a.page.now (lent (goal.at.returns-then-version-ge-NO_VERSION c).Start c.read_standing-t.result kept) a.endpoint a.cluster a.attribute (kept-rules (goal.at.returns-then-version-ge-NO_VERSION c).Else-not-cache_ok kept) (rw (there (goal.at.returns-then-version-ge-NO_VERSION c).In-Some, le-ltb _ no_version c.if-version-ge-NO_VERSION.true) refl))

pub bounds-kinds-i : goal.bounds-kinds-i
bounds-kinds-i c = omega (arith, below (goal.at.bounds-kinds-i c).In-Some)

pub offset_bounds-words-i : goal.offset_bounds-words-i
offset_bounds-words-i c = omega (arith, below (goal.at.offset_bounds-words-i c).In-Some)

pub bounds-words-i : goal.bounds-words-i
bounds-words-i c = omega (arith, below (goal.at.bounds-words-i c).In-Some)

pub value_by-requires : goal.value_by-requires
value_by-requires c = let a = c.args in let st = lent (goal.at.value_by-requires c).Start c.read_standing-t.result [] in (found_word a.page.now st (ruled (goal.at.value_by-requires c).Else-not-cache_ok []) a.endpoint a.cluster a.attribute c.in-Some.i (there (goal.at.value_by-requires c).In-Some), found-place a.page.now st (ruled (goal.at.value_by-requires c).Else-not-cache_ok []) a.endpoint a.cluster a.attribute c.in-Some.i (there (goal.at.value_by-requires c).In-Some))

pub returns : goal.returns
returns c = let a = c.args in λ kept. as_read (goal.at.returns c).After-cache_ok kept (entry-right a.asked.now a.page.now (lent (goal.at.returns c).Start c.read_standing-t.result kept) a.endpoint a.cluster a.attribute (kept-rules (goal.at.returns c).Else-not-cache_ok kept) (ap (λ (v : Value). held.Here (get_or a.versions.now c.in-Some.i 0) v) c.value_by.ensures ∙ rw (there (goal.at.returns c).In-Some, lt-ltb _ no_version c.if-version-ge-NO_VERSION.false) refl))
