-- SETTING AN ENTRY CHANGES THAT ENTRY ALONE: what the cache has for the path of a block is what the block says, and for every other path what it had.
use Rattle.std.specs.Prelude.{Some, None, Option}
use mathlib.Core.Path.{◌≡◌, refl, sym, ap, ◌∙◌}
use mathlib.Core.Bool.{true, false}
use mathlib.Core.List.{List}
use Prim.Native.Nat.{ℕ, ◌/◌, ◌^◌, ◌≤◌, ◌<◌}
use native.Mathlib.Omega.{arith}
use borrow.Author.Tests.{eqb-true, eqb-false}
use lib.Dec.{eqb}
use lib.ListN.{get_or, set, take, drop}
use lib.Seq.{get_or-set_same}
use mir.Syntax.{w64}
use mir.ValLaws.{to_z-of_z}
use Rattle.tlv_reader.specs.declared.Value.{Value}
use Rattle.tlv_reader.specs.declared.Value.TheVariants as value
use Rattle.tlv_reader.specs.Value.{Datum, datum_in}
use Rattle.node_kinds.specs.Stored.{word_of, Sized}
use Rattle.node_schema.proofs.BoolLaws.{by-test}
use Rattle.cache_entries.specs.declared.Cached.{Cached}
use Rattle.cache_entries.specs.Limits.{max_entries, max_clusters, half, null_kind, boolean_kind, unsigned_kind, signed_kind, float_kind, text_kind}
use Rattle.cache_entries.specs.Entries.{cluster_word, key_word, cluster_at, entry_at, text_in, datum_by, entry_of, at_entry, in_cluster, path_at, lookup}
use Rattle.cache_entries.specs.Texts.{text_place}
use Rattle.cache_entries.specs.Set.{cluster_place, entry_place, count_with, with_cluster, with_entry}
use Rattle.cache_entries.specs.Valid.{word_right, ColumnsSized, RightHeld}
use Rattle.cache_entries.proofs.SetLaws.{word_stands, Put, put, others-found, word-found}
use Rattle.cache_entries.proofs.SetLaws.Put.{old, new}
use Rattle.cache_entries.proofs.ValidLaws.{key_below_lem, entry-word}
use Rattle.cache_report.specs.declared.block.NewEntry.{NewEntry}
use Rattle.cache_entries.specs.Values.{usable_in}
use Rattle.cache_report.specs.Entry.{position_of, kind_v, word_as, with_item, text_stored, ItemRight}
use Rattle.cache_report.proofs.EntryLaws.{Goes, position-goes, Below, position-below}
use Rattle.cache_report.proofs.RightLaws.{Row, own_row, other_row, text-set, shown-stays}

never : {A : Type 0} → ◌≡◌ {A = ℕ} 0 1 → A
never e = absurd (omega arith)

-- a value as it is kept means what it meant
datum-back : (s : List ℕ) (p : ℕ) (v : Value) (shown : List ℕ) → Sized v → usable_in s v ≡ true → ((a n : ℕ) → v ≡ value.Text a n → shown ≡ take n (drop a s)) → datum_by (kind_v v) (word_as p v) shown ≡ datum_in s v
unfolding datum_by kind_v word_as word_of usable_in
datum-back s p value.Null shown z u t = refl
datum-back s p (value.Boolean true) shown z u t = refl
datum-back s p (value.Boolean false) shown z u t = refl
datum-back s p (value.Unsigned n) shown z u t = refl
datum-back s p (value.Signed n) shown z u t = ap Datum.signed (to_z-of_z w64 n z)
datum-back s p (value.Float n) shown z u t = ap Datum.float (omega arith)
datum-back s p (value.Text a n) shown z u t = ap Datum.text (t a n refl)
datum-back s p value.Other shown z u t = never (let q : false ≡ true = u in cc)

-- a text is looked at where there is one
datum-same : (kind word : ℕ) (a b : List ℕ) → (eqb kind text_kind ≡ true → a ≡ b) → word_right kind word ≡ true → datum_by kind word a ≡ datum_by kind word b
unfolding datum_by word_right
datum-same kind word a b same h =
    by-test (eqb kind null_kind) (λ t. rw t refl)
    (λ p. by-test (eqb kind boolean_kind) (λ t. rw (p, t) refl)
    (λ q. by-test (eqb kind unsigned_kind) (λ t. rw (p, q, t) refl)
    (λ r. by-test (eqb kind signed_kind) (λ t. rw (p, q, r, t) refl)
    (λ s. by-test (eqb kind float_kind) (λ t. rw (p, q, r, s, t) refl) (λ t. ap (datum_by kind word) (same (rw (p, q, r, s, t) at h)))))))

module _ (s page : List ℕ) (c : Cached) (x : NewEntry) (k i : ℕ) (item : ItemRight s x) (r : RightHeld page c) (w : ColumnsSized c) (position : position_of c x ≡ Some (k, i)) where
  low : Below k i
  low = position-below c r.few-clusters r.few-entries x k i position

  goes : Goes c x k i
  goes = position-goes c x k i position

  abbrev next : Cached
  next = with_item c k i x

  abbrev after : List ℕ
  after = text_stored s page (text_place c i) x.value

  abbrev word : ℕ
  word = cluster_word x.endpoint x.cluster

  abbrev key : ℕ
  key = key_word k x.attribute

  cluster-there : cluster_at next word ≡ Some k
  unfolding cluster_place with_item with_entry with_cluster
  cluster-there = word-found c.clusters c.cluster_count max_clusters word k (omega (arith, w.clusters)) goes.cluster

  cluster-same : (y : ℕ) → (y ≡ word → ⊥) → cluster_at next y ≡ cluster_at c y
  unfolding cluster_place with_item with_entry with_cluster
  cluster-same y apart = others-found c.clusters c.cluster_count max_clusters word k (omega (arith, w.clusters)) goes.cluster y apart

  entry-there : entry_at next key ≡ Some i
  unfolding entry_place with_item with_entry with_cluster
  entry-there = word-found c.keys c.count max_entries key i (omega (arith, w.keys)) goes.entry

  entry-same : (y : ℕ) → (y ≡ key → ⊥) → entry_at next y ≡ entry_at c y
  unfolding entry_place with_item with_entry with_cluster
  entry-same y apart = others-found c.keys c.count max_entries key i (omega (arith, w.keys)) goes.entry y apart

  own-entry : entry_of next after i ≡ record { version = x.version; value = datum_in s x.value }
  unfolding word_as kind_v
  own-entry p = record { version = row.version p; value = (kept ∙ datum-back s place x.value (text_in after next.lengths (word_as place x.value)) item.sized item.usable shown) p }
    where
      place : ℕ
      place = text_place c i

      row : Row next i key x.version (kind_v x.value) (word_as place x.value)
      row = own_row s page c x k i item r w position

      kept : (entry_of next after i).value ≡ datum_by (kind_v x.value) (word_as place x.value) (text_in after next.lengths (word_as place x.value))
      kept p = datum_by (row.kind p) (row.word p) (text_in after next.lengths (row.word p))

      shown : (a n : ℕ) → x.value ≡ value.Text a n → text_in after next.lengths (word_as place x.value) ≡ take n (drop a s)
      shown a n e = ap (λ (v : Value). text_in after next.lengths (word_as place v)) e ∙ text-set s page c x k i item r w position a n e

  -- THE PATH OF THE BLOCK
  pub set_same : lookup (with_item c k i x) (text_stored s page (text_place c i) x.value) x.endpoint x.cluster x.attribute ≡ Some (record { version = x.version; value = datum_in s x.value })
  unfolding lookup path_at
  set_same = ap (λ (f : (Option ℕ)). at_entry next after (in_cluster next x.attribute f)) cluster-there ∙ ap (at_entry next after) entry-there ∙ ap Some own-entry

  -- another entry that is found stands elsewhere
  elsewhere : (y j : ℕ) → (y ≡ key → ⊥) → entry_at next y ≡ Some j → j ≡ i → ⊥
  elsewhere y j apart e q =
      apart (sym (word_stands next.keys next.count y j e).1 ∙ ap (λ (n : ℕ). get_or next.keys n 0) q ∙ (own_row s page c x k i item r w position).key)

  other-entry : (j : ℕ) → (j ≡ i → ⊥) → j < c.count → entry_of next after j ≡ entry_of c page j
  other-entry j apart l p = record { version = row.version p; value = (moved ∙ datum-same kind bits (text_in after next.lengths bits) (text_in page c.lengths bits) (shown-stays s page c x k i item r w position j l apart) (entry-word c r.entries j l)) p }
    where
      kind : ℕ
      kind = get_or c.kinds j 0

      bits : ℕ
      bits = get_or c.words j 0

      row : Row next j (get_or c.keys j 0) (get_or c.versions j 0) kind bits
      row = other_row s page c x k i item r w position j apart

      moved : (entry_of next after j).value ≡ datum_by kind bits (text_in after next.lengths bits)
      moved p = datum_by (row.kind p) (row.word p) (text_in after next.lengths (row.word p))

  -- what is found under another key
  key-same : (y : ℕ) → (y ≡ key → ⊥) → at_entry next after (entry_at next y) ≡ at_entry c page (entry_at c y)
  key-same y apart = ap (at_entry next after) (entry-same y apart) ∙ go (entry_at c y) refl
    where
      go : (f : (Option ℕ)) → entry_at c y ≡ f → at_entry next after f ≡ at_entry c page f
      go (Some j) e = ap Some (other-entry j (elsewhere y j apart (entry-same y apart ∙ e)) (word_stands c.keys c.count y j e).0)
      go None e = refl

  -- no entry is of a cluster that is not there
  none-there : (y : ℕ) → c.cluster_count ≤ y / half → entry_at c y ≡ None
  none-there y l = go (entry_at c y) refl
    where
      go : (f : (Option ℕ)) → entry_at c y ≡ f → entry_at c y ≡ None
      go None e = e
      go (Some j) e =
          let (low, here) = word_stands c.keys c.count y j e in
          absurd (omega (arith, l, ap (λ (n : ℕ). n / half) here, key_below_lem c r.entries j low))

  cluster-word : (y j : ℕ) → cluster_at next y ≡ Some j → j ≡ k → y ≡ word
  unfolding with_item with_entry with_cluster
  cluster-word y j e q =
      sym (word_stands (set c.clusters k word) (count_with c.cluster_count k) y j e).1 ∙ ap (λ (n : ℕ). get_or (set c.clusters k word) n 0) q ∙ get_or-set_same c.clusters k word 0 (omega (arith, low.cluster, w.clusters))

  -- the block's own cluster, before: at its place, or not there
  module _ (a : ℕ) (fa : a < 2 ^ 32) where
    apart-keys : (j : ℕ) → (j ≡ k → a ≡ x.attribute → ⊥) → key_word j a ≡ key → ⊥
    apart-keys j h e = h (omega (arith, e, fa, item.attribute)) (omega (arith, e, fa, item.attribute))

    in-own : (a ≡ x.attribute → ⊥) → at_entry next after (in_cluster next a (cluster_at next word)) ≡ at_entry c page (in_cluster c a (cluster_at c word))
    unfolding cluster_place
    in-own h =
        ap (λ (f : (Option ℕ)). at_entry next after (in_cluster next a f)) cluster-there
        ∙ key-same (key_word k a) (apart-keys k (λ _ e. h e))
        ∙ go (put c.clusters c.cluster_count max_clusters word k goes.cluster)
      where
        go : Put c.clusters c.cluster_count max_clusters word k → at_entry c page (entry_at c (key_word k a)) ≡ at_entry c page (in_cluster c a (cluster_at c word))
        go (old e l same count) = sym (ap (λ (f : (Option ℕ)). at_entry c page (in_cluster c a f)) e)
        go (new e q l count) = ap (at_entry c page) (none-there (key_word k a) (omega (arith, q, fa))) ∙ sym (ap (λ (f : (Option ℕ)). at_entry c page (in_cluster c a f)) e)

    in-other : (y : ℕ) → (y ≡ word → ⊥) → at_entry next after (in_cluster next a (cluster_at next y)) ≡ at_entry c page (in_cluster c a (cluster_at c y))
    in-other y h = ap (λ (f : (Option ℕ)). at_entry next after (in_cluster next a f)) (cluster-same y h) ∙ go (cluster_at c y) refl
      where
        go : (f : (Option ℕ)) → cluster_at c y ≡ f → at_entry next after (in_cluster next a f) ≡ at_entry c page (in_cluster c a f)
        go (Some j) e = key-same (key_word j a) (apart-keys j (λ q _. h (cluster-word y j (cluster-same y h ∙ e) q)))
        go None e = refl

  -- EVERY OTHER PATH
  pub set_other : (e l a : ℕ) → e < 2 ^ 16 → l < 2 ^ 32 → a < 2 ^ 32 → (e ≡ x.endpoint → l ≡ x.cluster → a ≡ x.attribute → ⊥) → lookup (with_item c k i x) (text_stored s page (text_place c i) x.value) e l a ≡ lookup c page e l a
  unfolding lookup path_at
  set_other e l a fe fl fa apart = by-test (eqb (cluster_word e l) word)
      (λ t. let q = eqb-true (cluster_word e l) word t in
      ap (λ (n : ℕ). at_entry next after (in_cluster next a (cluster_at next n))) q
      ∙ in-own a fa (apart (omega (arith, q, fe, fl, item.endpoint, item.cluster)) (omega (arith, q, fe, fl, item.endpoint, item.cluster)))
      ∙ sym (ap (λ (n : ℕ). at_entry c page (in_cluster c a (cluster_at c n))) q))
      (λ f. in-other a fa (cluster_word e l) (eqb-false _ _ f))
