-- Whether what a cache holds keeps the rules: its parts, and what they say.
use mathlib.Core.Path.{◌≡◌, refl}
use mathlib.Core.Bool.{Bool, true, false, not}
use mathlib.Core.List.{List}
use Prim.Native.Nat.{ℕ, ◌/◌, ◌^◌, ◌≤◌, ◌<◌}
use borrow.Author.Tests.{leb-true, ltb-true, eqb-true, eq-eqb, le-leb, lt-ltb}
use lib.Dec.{eqb, leb, ltb}
use lib.ListN.{length, get_or}
use Rattle.base_utf8.specs.WellFormed.{well_formed}
use Rattle.node_schema.proofs.BoolLaws.{both, left, right, by-test}
use Rattle.node_schema.proofs.CheckLaws.{every-at}
use Rattle.cache_order.specs.Order.{order_right}
use Rattle.cache_entries.specs.declared.Cached.{Cached}
use Rattle.cache_entries.specs.Limits.{max_entries, max_clusters, text_places, text_size, page_size, half, no_version}
use Rattle.cache_entries.specs.Entries.{cluster_order, text_in}
use Rattle.cache_entries.specs.Texts.{is_text, place_used}
use Rattle.cache_entries.specs.Valid.{word_right, entry_right, entry_right_at, entries_right, text_right, text_right_at, texts_right, clusters_right, held_right, RightHeld}

-- a cluster's word has 48 bits
abbrev pub below : List ℕ → ℕ → Bool
below l k = ltb (get_or l k 0) (2 ^ 48)

module _ (page : List ℕ) (c : Cached) where
  -- the rules are kept exactly if each part is
  pub held-right : held_right page c ≡ true → RightHeld page c
  unfolding held_right
  held-right h =
      let a = right (eqb (length page) page_size) _ h in
      let b = right (leb c.count max_entries) _ a in
      let d = right (leb c.cluster_count max_clusters) _ b in
      let e = right (clusters_right c.clusters c.cluster_count) _ d in
      let f = right (order_right c.clusters (cluster_order c.order) c.cluster_count) _ e in
      let g = right (order_right c.keys c.order c.count) _ f in
      record {
        size = eqb-true _ _ (left _ _ h);
        few-entries = leb-true _ _ (left _ _ a);
        few-clusters = leb-true _ _ (left _ _ b);
        clusters = left _ _ d;
        cluster-order = left _ _ e;
        entry-order = left _ _ f;
        entries = left _ _ g;
        texts = right (entries_right c) _ g;
      }

  pub right-held : RightHeld page c → held_right page c ≡ true
  unfolding held_right
  right-held r =
      both _ _ (eq-eqb _ _ r.size)
      (both _ _ (le-leb _ _ r.few-entries)
      (both _ _ (le-leb _ _ r.few-clusters)
      (both _ _ r.clusters (both _ _ r.cluster-order (both _ _ r.entry-order (both _ _ r.entries r.texts))))))

  -- each cluster's word has its 48 bits
  pub cluster-below : RightHeld page c → (k : ℕ) → k < c.cluster_count → get_or c.clusters k 0 < 2 ^ 48
  unfolding clusters_right
  cluster-below r k l = ltb-true _ _ (every-at (below c.clusters) c.cluster_count r.clusters k l)

-- of each entry
module _ (c : Cached) (h : entries_right c ≡ true) (i : ℕ) (l : i < c.count) where
  pub entry-right : entry_right_at c i ≡ true
  unfolding entries_right
  entry-right = every-at (entry_right_at c) c.count h i l

  -- its cluster is there, its version at most none, its 64 bits fit its kind
  pub key_below_lem : get_or c.keys i 0 / half < c.cluster_count
  unfolding entry_right
  key_below_lem = ltb-true _ _ (left _ _ entry-right)

  pub version-right : get_or c.versions i 0 ≤ no_version
  unfolding entry_right
  version-right = leb-true _ _ (left _ _ (right (ltb (get_or c.keys i 0 / half) c.cluster_count) _ entry-right))

  pub entry-word : word_right (get_or c.kinds i 0) (get_or c.words i 0) ≡ true
  unfolding entry_right
  entry-word = right (leb (get_or c.versions i 0) no_version) _ (right (ltb (get_or c.keys i 0 / half) c.cluster_count) _ entry-right)

-- of each text: a place that there is and that no text before it has, at most 200 bytes, UTF-8
pub record TextRight (page : List ℕ) (c : Cached) (i : ℕ) : Type 0 where
  pub place : get_or c.words i 0 < text_places
  pub own : place_used c.kinds c.words i (get_or c.words i 0) ≡ false
  pub short : get_or c.lengths (get_or c.words i 0) 0 ≤ text_size
  pub formed : well_formed (text_in page c.lengths (get_or c.words i 0)) ≡ true

not-used : (b : Bool) → not b ≡ true → b ≡ false
not-used b = by-test b (λ t h. cc) (λ f h. f)

module _ (page : List ℕ) (c : Cached) where
  -- the texts are right exactly if each is
  pub text-right : texts_right page c ≡ true → (i : ℕ) → i < c.count → is_text c.kinds i ≡ true → TextRight page c i
  unfolding texts_right text_right_at text_right
  text-right h i l t =
      let word : ℕ = get_or c.words i 0 in
      let a = rw t at (every-at (text_right_at page c.kinds c.words c.lengths) c.count h i l) in
      let b = right (ltb word text_places) _ a in
      let d = right (not (place_used c.kinds c.words i word)) _ b in
      record {
        place = ltb-true _ _ (left _ _ a);
        own = not-used _ (left _ _ b);
        short = leb-true _ _ (left _ _ d);
        formed = right (leb (get_or c.lengths word 0) text_size) _ d;
      }

  pub right-text : (i : ℕ) → (is_text c.kinds i ≡ true → TextRight page c i) → text_right_at page c.kinds c.words c.lengths i ≡ true
  unfolding text_right_at text_right
  right-text i f =
      by-test (is_text c.kinds i)
      (λ t. let r = f t in rw (t, r.own) (both _ _ (lt-ltb _ _ r.place) (both _ _ (le-leb _ _ r.short) r.formed)))
      (λ t. rw t refl)
