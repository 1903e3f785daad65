-- Filters judged once, to one word for each cluster: a part skips a cluster exactly if the list of filters says so at the version that it has then.
use mathlib.Core.Path.{◌≡◌, refl, sym, ap, ◌∙◌}
use mathlib.Core.Bool.{Bool, false, ◌&&◌}
use mathlib.Core.List.{List, [], ◌∷◌, ◌++◌}
use Prim.Native.Nat.{ℕ, ◌+◌, ◌-◌, ◌^◌, ◌≤◌, ◌<◌}
use native.Mathlib.Omega.{arith}
use borrow.Author.Tests.{eq-eqb, ne_eqb, eqb-true, eqb-false, lt-ltb, le-ltb, ltb-true, ltb-false}
use lib.Dec.{eqb, ltb}
use lib.ListN.{get_or, set, drop, replicate}
use lib.Seq.{get_or-take, get_or-drop}
use Rattle.base_bounds.specs.Bounds.{cluster_limit}
use Rattle.node_schema.specs.Rows.{cluster_row, count_of_clusters, filled, rows_from}
use Rattle.node_schema.proofs.BoolLaws.{by-test}
use Rattle.node_schema.proofs.RowLaws.{rows_get, rows_same, fill_step}
use Rattle.im_requests.specs.declared.VersionFilter.{VersionFilter}
use Rattle.server_selection.specs.Request.{filters_at, filters_in}
use Rattle.server_selection.specs.Filters.{on, some, agree, skips_by, skips_at, skips_of, unfiltered, disagreeing, joined, word_after, filter_word, filter_words, skips_now}

-- ---- one word

join_first : (v : ℕ) → v < 2 ^ 32 → joined unfiltered v ≡ v
unfolding joined
join_first v l = rw (lt-ltb v unfiltered l)

join-past : (word v : ℕ) → 2 ^ 32 ≤ v → joined word v ≡ disagreeing
unfolding joined
join-past word v l = rw (le-ltb v unfiltered l)

join-same : (word : ℕ) → word < 2 ^ 32 → joined word word ≡ word
unfolding joined
join-same word l = rw (lt-ltb word unfiltered l, ne_eqb word unfiltered (λ e. omega (arith, e)), eq-eqb word word refl)

join-other : (word v : ℕ) → word < 2 ^ 32 → v < 2 ^ 32 → (word ≡ v → ⊥) → joined word v ≡ disagreeing
unfolding joined
join-other word v l m n = rw (lt-ltb v unfiltered m, ne_eqb word unfiltered (λ e. omega (arith, e)), ne_eqb word v n)

join-stays : (v : ℕ) → joined disagreeing v ≡ disagreeing
unfolding joined
join-stays v = by-test (ltb v unfiltered) (λ t. rw (t, ne_eqb disagreeing v (λ e. omega (arith, e, ltb-true v unfiltered t)))) (λ t. rw t)

module _ (e c : ℕ) where
  apart : (fs : List VersionFilter) → word_after e c disagreeing fs ≡ disagreeing
  unfolding word_after
  apart [] = refl
  apart (f ∷ fs) = by-test (on e c f) (λ t. rw (t, join-stays f.version) (apart fs)) (λ t. rw t (apart fs))

  module _ (v : ℕ) (fits : v < 2 ^ 32) where
    never : (fs : List VersionFilter) → eqb (word_after e c disagreeing fs) v ≡ false
    never fs = rw (apart fs) (ne_eqb disagreeing v (λ x. omega (arith, x)))

    -- some filter was for the cluster, and all of them carried this version
    one-version : (word : ℕ) → word < 2 ^ 32 → (fs : List VersionFilter) → eqb (word_after e c word fs) v ≡ (eqb word v && agree e c v fs)
    unfolding word_after agree
    one-version word l [] = by-test (eqb word v) (λ t. rw t) (λ t. rw t)
    one-version word l (f ∷ fs) =
        by-test (on e c f)
        (λ t. by-test (ltb f.version (2 ^ 32))
        (λ u. by-test (eqb word f.version)
        (λ s. let k : f.version ≡ word = sym (eqb-true _ _ s) in
        rw (t, k, join-same word l) (one-version word l fs ∙ by-test (eqb word v) (λ r. rw r) (λ r. rw r)))
        (λ s. rw (t, join-other word f.version l (ltb-true _ _ u) (eqb-false _ _ s)) (never fs ∙ both-not (eqb-false _ _ s))))
        (λ u. rw (t, join-past word f.version (ltb-false _ _ u)) (never fs ∙ not-this (ltb-false _ _ u))))
        (λ t. rw t (one-version word l fs))
      where
        both-not : (word ≡ f.version → ⊥) → false ≡ (eqb word v && (eqb f.version v && agree e c v fs))
        both-not n = by-test (eqb word v) (λ r. rw (r, ne_eqb f.version v (λ q. n (eqb-true _ _ r ∙ sym q)))) (λ r. rw r)

        not-this : 2 ^ 32 ≤ f.version → false ≡ (eqb word v && (eqb f.version v && agree e c v fs))
        not-this m = by-test (eqb word v) (λ r. rw (r, ne_eqb f.version v (λ q. omega (arith, q)))) (λ r. rw r)

    -- LAW: a cluster's word is its version exactly if the list of filters skips it
    pub word-skips : (fs : List VersionFilter) → eqb (word_after e c unfiltered fs) v ≡ skips_by fs e c v
    unfolding skips_by word_after some agree
    word-skips [] = ne_eqb unfiltered v (λ x. omega (arith, x))
    word-skips (f ∷ fs) =
        by-test (on e c f)
        (λ t. by-test (ltb f.version (2 ^ 32))
        (λ u. rw (t, join_first f.version (ltb-true _ _ u)) (one-version f.version (ltb-true _ _ u) fs))
        (λ u. let m : 2 ^ 32 ≤ f.version = ltb-false f.version (2 ^ 32) u in
        let n : eqb f.version v ≡ false = ne_eqb f.version v (λ q. omega (arith, q, m)) in
        rw (t, join-past unfiltered f.version m, n) (never fs)))
        (λ t. rw t (word-skips fs))

-- ---- every cluster

-- a part skips cluster k
abbrev pub skip_at : List ℕ → List ℕ → ℕ → Bool
skip_at row versions k = eqb (get_or (filters_in row) k 0) (get_or versions k 0)

-- one turn of the loop over the clusters
pub skips-step : (row versions : List ℕ) (l : List Bool) (k : ℕ) → l ≡ filled false (skip_at row versions) cluster_limit k → k < cluster_limit → (x y : ℕ) → x ≡ get_or row (filters_at + k) 0 → y ≡ get_or versions k 0 → set l k (eqb x y) ≡ filled false (skip_at row versions) cluster_limit (k + 1)
skips-step row versions l k p h x y q r =
    let u : eqb x y ≡ skip_at row versions k = λ j. eqb ((q ∙ sym (get_or-drop filters_at row k 0) ∙ sym (get_or-take cluster_limit (drop filters_at row) k 0 h)) j) (r j) in
    (λ j. set (p j) k (u j)) ∙ fill_step false (skip_at row versions) cluster_limit k h

-- LAW: skipped exactly as RULES 5.8 says of the list of filters
pub judged-skips : (w : List ℕ) (fs : List VersionFilter) (versions : List ℕ) → ((k : ℕ) → get_or versions k 0 < 2 ^ 32) → skips_now w (filter_words w fs) versions ≡ skips_of w fs versions
unfolding skips_now skips_of filter_words
judged-skips w fs versions fits =
    ap (λ (l : List Bool). l ++ replicate (cluster_limit - count_of_clusters w) false) (rows_same _ (skips_at w fs versions) (count_of_clusters w) 0 at)
  where
    at : (k : ℕ) → 0 ≤ k → k < count_of_clusters w + 0 → eqb (get_or (rows_from (filter_word w fs) cluster_limit 0) k 0) (get_or versions k 0) ≡ skips_at w fs versions k
    at k l u =
        let e : k + 0 ≡ k = omega arith in
        rw (rows_get (filter_word w fs) cluster_limit 0 k 0 (omega arith), e, lt-ltb k (count_of_clusters w) (omega arith))
        (word-skips (cluster_row w k).endpoint (cluster_row w k).cluster (get_or versions k 0) (fits k) fs)
