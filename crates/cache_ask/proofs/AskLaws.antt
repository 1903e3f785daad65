-- What is found is one of those held.
use Rattle.std.specs.Prelude.{Some, None, Option}
use mathlib.Core.Path.{◌≡◌, refl, sym, ap, ◌∙◌}
use Prim.Native.Nat.{ℕ, ◌+◌, ◌%◌, ◌≤◌, ◌<◌}
use native.Mathlib.Omega.{arith}
use mathlib.Core.Bool.{Bool, true, false, not}
use mathlib.Core.List.{List, []}
use borrow.Author.Tests.{eqb-true, eq-eqb, ne_eqb}
use mir.Syntax.{w64}
use mir.Val.{to_z}
use lib.Dec.{eqb, leb, ltb}
use lib.ListN.{length, get_or}
use Rattle.tlv_reader.specs.Octet.{pick}
use Rattle.tlv_reader.specs.declared.Value.{Value}
use Rattle.tlv_reader.specs.declared.Value.TheVariants as value
use Rattle.node_schema.proofs.SearchLaws as Search
use Rattle.cache_order.specs.Order.{word_at}
use Rattle.cache_entries.specs.declared.Cached.{Cached}
use Rattle.cache_entries.specs.Limits.{max_clusters, max_entries, text_places, text_size, half, no_version, null_kind, boolean_kind, unsigned_kind, signed_kind, float_kind, text_kind}
use Rattle.cache_entries.specs.Entries.{cluster_word, key_word, cluster_at, place_start, in_cluster, path_at}
use Rattle.cache_entries.specs.Valid.{word_right}
use Rattle.cache_entries.proofs.ValidLaws.{TextRight, held-right, entry-word, text-right}
use Rattle.cache_state.specs.declared.CacheState.{CacheState}
use Rattle.cache_state.specs.State.{cache_right}
use Rattle.cache_state.specs.Words.{words_right}
use Rattle.cache_state.proofs.StateLaws.{right-held, right-size}
use Rattle.cache_ask.specs.declared.EntryHeld.{EntryHeld}
use Rattle.cache_ask.specs.declared.EntryHeld.TheVariants as held
use Rattle.cache_ask.specs.Ask.{value_by, entry_read, entry_of, text_of_value, text_of_entry, text_of, text_shown, Ordered}

never : {A : Type 0} → ◌≡◌ {A = ℕ} 0 1 → A
never e = absurd (omega arith)

-- an entry that is found is one of those counted
pub entry-count : (c : Cached) (endpoint cluster attribute i : ℕ) → path_at c endpoint cluster attribute ≡ Some i → i < c.count
unfolding path_at word_at
entry-count c endpoint cluster attribute i e = go (cluster_at c (cluster_word endpoint cluster)) e
  where
    go : (f : (Option ℕ)) → in_cluster c attribute f ≡ Some i → i < c.count
    go (Some k) q = omega (arith, (Search.found (λ j. eqb (get_or c.keys j 0) (key_word k attribute)) c.count 0 i q).below)
    go None q = never (cc)

pub cluster-found : (l : List ℕ) (n word k : ℕ) → n ≤ max_clusters → word_at l n word ≡ Some k → k < max_clusters
unfolding word_at
cluster-found l n word k h e = omega (arith, (Search.found (λ i. eqb (get_or l i 0) word) n 0 k e).below)

-- what a cache that keeps the rules has for a path
module _ (page : List ℕ) (s : CacheState) (h : cache_right page s ≡ true) where
  pub right-ordered : let c = s.held in Ordered c.clusters c.keys c.order c.cluster_count c.count
  right-ordered =
      let r = held-right page s.held (right-held page s h) in
      record { few-entries = r.few-entries; few-clusters = r.few-clusters; cluster-order = r.cluster-order; entry-order = r.entry-order }

  module _ (endpoint cluster attribute i : ℕ) (e : path_at s.held endpoint cluster attribute ≡ Some i) where
    pub entry_found : i < max_entries
    entry_found = omega (arith, right-ordered.few-entries, entry-count s.held endpoint cluster attribute i e)

    -- its 64 bits fit its kind, and those of a text are a place with at most 200 bytes
    pub found_word : word_right (get_or s.held.kinds i 0) (get_or s.held.words i 0) ≡ true
    found_word = entry-word s.held (held-right page s.held (right-held page s h)).entries i (entry-count s.held endpoint cluster attribute i e)

    found-text : get_or s.held.kinds i 0 ≡ text_kind → TextRight page s.held i
    found-text k = text-right page s.held (held-right page s.held (right-held page s h)).texts i (entry-count s.held endpoint cluster attribute i e) (eq-eqb _ _ k)

    pub found-place : get_or s.held.kinds i 0 ≡ text_kind → get_or s.held.words i 0 < text_places
    found-place k = (found-text k).place

    pub found-short : get_or s.held.kinds i 0 ≡ text_kind → get_or s.held.lengths (get_or s.held.words i 0) 0 ≤ text_size
    found-short k = (found-text k).short

-- no text
pub no-entry : (page : List ℕ) (x : EntryHeld) → ((version : ℕ) (v : Value) → x ≡ held.Here version v → ⊥) → [] ≡ text_of_entry page x
no-entry page held.Broken h = refl
no-entry page held.Nothing h = refl
no-entry page (held.Here v x) h = absurd (h v x refl)

pub no_text : (page : List ℕ) (v : Value) → ((start len : ℕ) → v ≡ value.Text start len → ⊥) → [] ≡ text_of_value page v
no_text page value.Null h = refl
no_text page (value.Boolean b) h = refl
no_text page (value.Unsigned n) h = refl
no_text page (value.Signed z) h = refl
no_text page (value.Float n) h = refl
no_text page (value.Text a n) h = absurd (h a n refl)
no_text page value.Other h = refl

-- what is of no other kind is a text
pub last-kind : (kind word : ℕ) → word_right kind word ≡ true → (kind ≡ null_kind → ⊥) → (kind ≡ boolean_kind → ⊥) → (kind ≡ unsigned_kind → ⊥) → (kind ≡ signed_kind → ⊥) → (kind ≡ float_kind → ⊥) → kind ≡ text_kind
unfolding word_right
last-kind kind word h a b c d e =
    eqb-true kind text_kind (rw (ne_eqb kind null_kind a, ne_eqb kind boolean_kind b, ne_eqb kind unsigned_kind c, ne_eqb kind signed_kind d, ne_eqb kind float_kind e) at h)

-- a text that is shown lies in its place of the page, and is no longer than that
by_kind : (kind word len : ℕ) {a n : ℕ} → word_right kind word ≡ true → value_by kind word len ≡ value.Text a n → (kind ≡ text_kind) × ((a ≡ place_start word) × (n ≡ len))
unfolding value_by word_right
by_kind kind word len {a} {n} h e = go (eqb kind null_kind) (eqb kind boolean_kind) (eqb kind unsigned_kind) (eqb kind signed_kind) (eqb kind float_kind) h e
  where
    go : (p q r s t : Bool) → pick p (eqb word 0) (pick q (leb word 1) (pick r true (pick s true (pick t (ltb word half) (eqb kind text_kind))))) ≡ true → pick p value.Null (pick q (value.Boolean (not (eqb word 0))) (pick r (value.Unsigned word) (pick s (value.Signed (to_z w64 word)) (pick t (value.Float (word % half)) (value.Text (place_start word) len))))) ≡ value.Text a n → (kind ≡ text_kind) × ((a ≡ place_start word) × (n ≡ len))
    go true q r s t h e = never (cc)
    go false true r s t h e = never (cc)
    go false false true s t h e = never (cc)
    go false false false true t h e = never (cc)
    go false false false false true h e = never (cc)
    go false false false false false h e = (eqb-true kind text_kind h, (cc, cc))

pub text-there : (page : List ℕ) (s : CacheState) (endpoint cluster attribute : ℕ) {v a n : ℕ} {x : Value} → entry_of page s endpoint cluster attribute ≡ held.Here v x → x ≡ value.Text a n → (a + n ≤ length page) × (n ≤ text_size)
unfolding entry_of
text-there page s endpoint cluster attribute {v} {a} {n} {x} e t = go (cache_right page s) (path_at s.held endpoint cluster attribute) refl refl e
  where
    at : (i : ℕ) → cache_right page s ≡ true → path_at s.held endpoint cluster attribute ≡ Some i → (b : Bool) → pick b (held.Here (get_or s.held.versions i 0) (value_by (get_or s.held.kinds i 0) (get_or s.held.words i 0) (get_or s.held.lengths (get_or s.held.words i 0) 0))) held.Nothing ≡ held.Here v x → (a + n ≤ length page) × (n ≤ text_size)
    at i p q true e =
        let c = s.held in
        let word : ℕ = get_or c.words i 0 in
        let same : value_by (get_or c.kinds i 0) word (get_or c.lengths word 0) ≡ x = cc in
        let k = by_kind (get_or c.kinds i 0) word (get_or c.lengths word 0) (found_word page s p endpoint cluster attribute i q) (same ∙ t) in
        omega (arith, k.1.0, k.1.1, found-place page s p endpoint cluster attribute i q k.0, found-short page s p endpoint cluster attribute i q k.0, right-size page s p)
    at i p q false e = never (cc)

    go : (b : Bool) (f : (Option ℕ)) → cache_right page s ≡ b → path_at s.held endpoint cluster attribute ≡ f → pick b (entry_read s.held f) held.Broken ≡ held.Here v x → (a + n ≤ length page) × (n ≤ text_size)
    go true (Some i) p q e = at i p q (ltb (get_or s.held.versions i 0) no_version) e
    go true None p q e = never (cc)
    go false f p q e = never (cc)

-- by words that are a cache's
pub text-inside : (asked page : List ℕ) (s : CacheState) (endpoint cluster attribute : ℕ) {v a n : ℕ} {x : Value} → held.Here v x ≡ pick (words_right asked) (entry_of page s endpoint cluster attribute) held.Broken → x ≡ value.Text a n → (a + n ≤ length page) × (n ≤ text_size)
text-inside asked page s endpoint cluster attribute {v} {a} {n} {x} = go (words_right asked)
  where
    go : (b : Bool) → held.Here v x ≡ pick b (entry_of page s endpoint cluster attribute) held.Broken → x ≡ value.Text a n → (a + n ≤ length page) × (n ≤ text_size)
    go true e t = text-there page s endpoint cluster attribute (sym e) t
    go false e t = never (cc)

pub text-of : (asked page : List ℕ) (s : CacheState) (endpoint cluster attribute : ℕ) {r : EntryHeld} → r ≡ pick (words_right asked) (entry_of page s endpoint cluster attribute) held.Broken → text_of_entry page r ≡ text_shown asked page s endpoint cluster attribute
unfolding text_of
text-of asked page s endpoint cluster attribute e = ap (text_of_entry page) e ∙ go (words_right asked)
  where
    go : (b : Bool) → text_of_entry page (pick b (entry_of page s endpoint cluster attribute) held.Broken) ≡ pick b (text_of_entry page (entry_of page s endpoint cluster attribute)) []
    go true = refl
    go false = refl
