-- One filter more: the word of its cluster joins it, and no other word moves.
use Rattle.std.specs.Prelude.{Some, None, Option}
use mathlib.Core.Path.{◌≡◌, refl, sym, ap, ◌∙◌}
use mathlib.Core.Bool.{true}
use mathlib.Core.List.{List, [], ◌∷◌, ◌++◌}
use Prim.Native.Nat.{ℕ, zero, suc, ◌+◌, ◌^◌, ◌≤◌, ◌<◌}
use native.Mathlib.Numerals.{add-one}
use native.Mathlib.Omega.{arith}
use borrow.Author.Tests.{eqb-true, eq-eqb, lt-ltb, ltb-true}
use lib.Dec.{eqb, ltb}
use lib.ListN.{length, get_or, set, drop, replicate}
use lib.Seq.{get_or-take, get_or-drop, set-set, set_comm}
use Rattle.base_bounds.specs.Bounds.{cluster_limit}
use Rattle.base_octets.specs.Store.{store}
use Rattle.base_octets.proofs.StoreLaws.{length-store, store-back, store-over}
use Rattle.tlv_reader.specs.Octet.{pick}
use Rattle.node_schema.specs.Rows.{cluster_row, count_of_clusters, rows_from}
use Rattle.node_schema.specs.Check.{well_formed}
use Rattle.node_schema.specs.Find.{find_cluster}
use Rattle.node_schema.proofs.BoolLaws.{by-test, both, left, right}
use Rattle.node_schema.proofs.RowLaws.{rows-length, rows_get, rows_same, rows_snoc}
use Rattle.node_schema.proofs.RulesLaws.{well-formed-rules, cluster-rules}
use Rattle.node_schema.proofs.PathLaws.{one-cluster}
use Rattle.node_schema.proofs.FindLaws.{cluster-found, cluster-none}
use Rattle.im_requests.specs.declared.VersionFilter.{VersionFilter}
use Rattle.im_requests.specs.Read.{unwanted}
use Rattle.server_selection.specs.Request.{filters_at}
use Rattle.server_selection.specs.Filters.{on, unfiltered, joined, word_after, filter_word, filter_words, row_of, joined_at, version_filter_in, version_filter_list}

word-last : (e c word : ℕ) (fs : List VersionFilter) (f : VersionFilter) → word_after e c word (fs ++ (f ∷ [])) ≡ pick (on e c f) (joined (word_after e c word fs) f.version) (word_after e c word fs)
unfolding word_after
word-last e c word [] f = refl
word-last e c word (g ∷ fs) f = word-last e c (pick (on e c g) (joined word g.version) word) fs f

-- ---- a word of a column that is stored, changed

set_before : (l : List ℕ) (at : ℕ) (bs : List ℕ) (p x : ℕ) → p < at → set (store l at bs) p x ≡ store (set l p x) at bs
unfolding store
set_before l at [] p x h = refl
set_before l at (b ∷ bs) p x h =
    set_before (set l at b) (suc at) bs p x (omega arith) ∙ ap (λ (r : List ℕ). store r (suc at) bs) (set_comm l at p b x (λ e. omega (arith, e)))

set-stored : (l : List ℕ) (at : ℕ) (bs : List ℕ) (k x : ℕ) → k < length bs → set (store l at bs) (at + k) x ≡ store l at (set bs k x)
unfolding store
set-stored l at [] k x h = absurd (omega arith)
set-stored l at (b ∷ bs) zero x h =
    let e : at + 0 ≡ at = omega arith in
    ap (λ (p : ℕ). set (store (set l at b) (suc at) bs) p x) e
    ∙ set_before (set l at b) (suc at) bs at x (omega arith)
    ∙ ap (λ (r : List ℕ). store r (suc at) bs) (set-set l at b x)
set-stored l at (b ∷ bs) (suc k) x h =
    let e : at + suc k ≡ suc at + k = omega arith in
    ap (λ (p : ℕ). set (store (set l at b) (suc at) bs) p x) e ∙ set-stored (set l at b) (suc at) bs k x (omega arith)

stored-word : (l : List ℕ) (at : ℕ) (bs : List ℕ) (k : ℕ) → at + length bs ≤ length l → k < length bs → get_or (store l at bs) (at + k) 0 ≡ get_or bs k 0
stored-word l at bs k room h =
    sym (get_or-drop at (store l at bs) k 0) ∙ sym (get_or-take (length bs) (drop at (store l at bs)) k 0 h) ∙ ap (λ (y : List ℕ). get_or y k 0) (store-back l at bs room)

set-rows : (g f : ℕ → ℕ) (n m k x : ℕ) → k < n → f (k + m) ≡ x → ((i : ℕ) → m ≤ i → i < n + m → (i ≡ k + m → ⊥) → g i ≡ f i) → set (rows_from g n m) k x ≡ rows_from f n m
unfolding rows_from
set-rows g f zero m k x h q same = absurd (omega arith)
set-rows g f (suc n) m zero x h q same = let e : 0 + m ≡ m = omega arith in λ j. (sym q ∙ ap f e) j ∷ rows_same g f n (suc m) (λ i a b. same i (omega arith) (omega arith) (λ e. omega (arith, e))) j
set-rows g f (suc n) m (suc k) x h q same =
    let e : suc k + m ≡ k + suc m = omega arith in
    λ j. same m (omega arith) (omega arith) (λ y. omega (arith, y)) j ∷ set-rows g f n (suc m) k x (omega arith) (ap f (sym e) ∙ q) (λ i a b y. same i (omega arith) (omega arith) (λ z. y (z ∙ e))) j

-- ---- the filter's cluster

abbrev index_in : Option ℕ → ℕ
index_in (Some i) = suc i
index_in None = 0

nowhere : {i : ℕ} → None ≡ Some i → ⊥
nowhere {i} e = omega (arith, ap index_in e)

one-row : {i k : ℕ} → Some i ≡ Some k → i ≡ k
one-row e = omega (arith, ap index_in e)

-- words that are all the same
pub rows-same_word : (x n k : ℕ) → replicate n x ≡ rows_from (λ i. x) n k
unfolding rows_from
rows-same_word x zero k = refl
rows-same_word x (suc n) k = ap (λ (r : List ℕ). x ∷ r) (rows-same_word x n (suc k))

pub no-filter : (w : List ℕ) → filter_words w [] ≡ rows_from (λ k. unfiltered) cluster_limit 0
unfolding filter_words word_after
no-filter w = rows_same (filter_word w []) (λ k. unfiltered) cluster_limit 0 (λ i a b. by-test (ltb i (count_of_clusters w)) (λ t. rw t refl) (λ t. rw t refl))

-- what is stored over words that were cleared
module _ (w old : List ℕ) {row : List ℕ} (e : row ≡ store old filters_at (rows_from (λ k. unfiltered) cluster_limit 0)) where
  pub clear-length : length row ≡ length old
  clear-length = ap length e ∙ length-store old filters_at (rows_from (λ k. unfiltered) cluster_limit 0)

  pub clear-over : (fs : List VersionFilter) → store row filters_at (filter_words w fs) ≡ store old filters_at (filter_words w fs)
  unfolding filter_words
  clear-over fs =
      ap (λ (r : List ℕ). store r filters_at (filter_words w fs)) e
      ∙ store-over old filters_at (rows_from (λ k. unfiltered) cluster_limit 0) (filter_words w fs) (omega (arith, rows-length (λ (k : ℕ). unfiltered) cluster_limit 0, rows-length (filter_word w fs) cluster_limit 0))

  pub clear_stays : row ≡ store row filters_at (filter_words w [])
  clear_stays = e ∙ ap (store old filters_at) (sym (no-filter w)) ∙ sym (clear-over [])

row-there : (w : List ℕ) (f : VersionFilter) (k : ℕ) → row_of w f ≡ Some k → find_cluster w f.endpoint f.cluster ≡ Some k
unfolding row_of
row-there w f k q = by-test (ltb f.endpoint (2 ^ 16)) (λ t. by-test (ltb f.cluster (2 ^ 32)) (λ u. rw (t, u) at q) (λ u. absurd (nowhere (rw (t, u) at q)))) (λ t. absurd (nowhere (rw t at q)))

pub row_within : (w : List ℕ) (f : VersionFilter) (k : ℕ) → row_of w f ≡ Some k → k < cluster_limit
row_within w f k q = omega (arith, (cluster-found w f.endpoint f.cluster k (row-there w f k q)).0)

module _ (w : List ℕ) (rules : well_formed w ≡ true) (f : VersionFilter) where
  -- a filter that is for cluster i finds its row
  finds : (i : ℕ) → i < count_of_clusters w → on (cluster_row w i).endpoint (cluster_row w i).cluster f ≡ true → row_of w f ≡ Some i
  unfolding on row_of
  finds i l t =
      let e = eqb-true f.endpoint (cluster_row w i).endpoint (left _ _ t) in
      let c = eqb-true f.cluster (cluster_row w i).cluster (right (eqb f.endpoint (cluster_row w i).endpoint) _ t) in
      let r = cluster-rules w ((well-formed-rules w).0 rules) i l in
      rw (lt-ltb f.endpoint (2 ^ 16) (omega (arith, e, r.endpoint)), lt-ltb f.cluster (2 ^ 32) (omega (arith, c, r.cluster))) (go (find_cluster w f.endpoint f.cluster) refl e c)
    where
      go : (x : (Option ℕ)) → find_cluster w f.endpoint f.cluster ≡ x → f.endpoint ≡ (cluster_row w i).endpoint → f.cluster ≡ (cluster_row w i).cluster → x ≡ Some i
      go None q e c = absurd (cluster-none w f.endpoint f.cluster q i l (sym e) (sym c))
      go (Some k) q e c =
          let y = cluster-found w f.endpoint f.cluster k q in
          ap Some (one-cluster w ((well-formed-rules w).0 rules) k i y.0 l (y.1 ∙ e) (y.2 ∙ c))

  -- a cluster that it is not for keeps its word
  stays : (fs : List VersionFilter) (i : ℕ) → (i < count_of_clusters w → row_of w f ≡ Some i → ⊥) → filter_word w fs i ≡ filter_word w (fs ++ (f ∷ [])) i
  stays fs i n =
      by-test (ltb i (count_of_clusters w))
      (λ t. rw (t, word-last (cluster_row w i).endpoint (cluster_row w i).cluster unfiltered fs f, by-test (on (cluster_row w i).endpoint (cluster_row w i).cluster f) (λ o. absurd (n (ltb-true _ _ t) (finds i (ltb-true _ _ t) o))) (λ o. o)) refl)
      (λ t. rw t refl)

  -- the one that it is for joins it
  joins : (fs : List VersionFilter) (k : ℕ) → k < count_of_clusters w → row_of w f ≡ Some k → filter_word w (fs ++ (f ∷ [])) k ≡ joined (filter_word w fs k) f.version
  unfolding on
  joins fs k l q =
      rw (lt-ltb k (count_of_clusters w) l, word-last (cluster_row w k).endpoint (cluster_row w k).cluster unfiltered fs f, is-on) refl
    where
      is-on : on (cluster_row w k).endpoint (cluster_row w k).cluster f ≡ true
      is-on = let z = cluster-found w f.endpoint f.cluster k (row-there w f k q) in both _ _ (eq-eqb _ _ (sym z.1)) (eq-eqb _ _ (sym z.2))

  -- LAW: one filter more
  pub filter_more : (old : List ℕ) (fs : List VersionFilter) {row : List ℕ} → filters_at + cluster_limit ≤ length old → row ≡ store old filters_at (filter_words w fs) → joined_at row f.version (row_of w f) ≡ store old filters_at (filter_words w (fs ++ (f ∷ [])))
  unfolding filter_words
  filter_more old fs {row} room e = go (row_of w f) refl
    where
      words : List ℕ
      words = rows_from (filter_word w fs) cluster_limit 0

      size : length words ≡ cluster_limit
      size = rows-length (filter_word w fs) cluster_limit 0

      go : (x : (Option ℕ)) → row_of w f ≡ x → joined_at row f.version x ≡ store old filters_at (rows_from (filter_word w (fs ++ (f ∷ []))) cluster_limit 0)
      go None q = e ∙ ap (store old filters_at) (rows_same (filter_word w fs) (filter_word w (fs ++ (f ∷ []))) cluster_limit 0 (λ i a b. stays fs i (λ l y. nowhere (sym q ∙ y))))
      go (Some k) q =
          let l = (cluster-found w f.endpoint f.cluster k (row-there w f k q)).0 in
          let here : get_or row (filters_at + k) 0 ≡ filter_word w fs k = ap (λ (r : List ℕ). get_or r (filters_at + k) 0) e ∙ stored-word old filters_at words k (omega (arith, size, room)) (omega (arith, size)) ∙ rows_get (filter_word w fs) cluster_limit 0 k 0 (omega arith) ∙ ap (filter_word w fs) (omega arith) in
          (λ j. set (e j) (filters_at + k) (joined (here j) f.version))
          ∙ set-stored old filters_at words k _ (omega (arith, size))
          ∙ ap (store old filters_at) (set-rows (filter_word w fs) (filter_word w (fs ++ (f ∷ []))) cluster_limit 0 k _ (omega arith) (ap (filter_word w (fs ++ (f ∷ []))) (omega arith) ∙ joins fs k l q) (λ i a b n. stays fs i (λ m y. n (one-row (sym y ∙ q) ∙ omega arith))))

-- one of the filters more
pub version-filter-more : (l : List ℕ) (i : ℕ) → version_filter_list l (i + 1) ≡ version_filter_list l i ++ (version_filter_in l i ∷ [])
version-filter-more l i =
    let y : i + 0 ≡ i = omega arith in
    ap (version_filter_list l) (add-one i) ∙ rows_snoc unwanted (version_filter_in l) i 0 ∙ ap (λ (k : ℕ). version_filter_list l i ++ (version_filter_in l k ∷ [])) y
