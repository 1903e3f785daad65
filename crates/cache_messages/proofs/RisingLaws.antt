-- Clusters in rising order: the least word above those of lower ranks is the next by the order that is kept.
use Rattle.std.specs.Prelude.{Some, None, Option}
use mathlib.Core.Path.{◌≡◌, refl, sym, ap, ◌∙◌}
use mathlib.Core.Bool.{Bool, true, false}
use mathlib.Core.List.{List, [], ◌++◌}
use Prim.Native.Nat.{ℕ, zero, suc, ◌+◌, ◌≤◌, ◌<◌}
use native.Mathlib.Omega.{arith}
use borrow.Author.Tests.{ltb-true, ltb-false, eqb-true, eqb-false}
use lib.Dec.{eqb, ltb}
use lib.ListN.{get_or}
use Rattle.tlv_reader.proofs.Picks.{pick-elim}
use Rattle.node_schema.proofs.BoolLaws.{by-test}
use Rattle.im_requests.specs.declared.VersionFilter.{VersionFilter}
use Rattle.cache_order.specs.Order.{ranked, order_right}
use Rattle.cache_order.proofs.OrderLaws.{places-at, order-places, order-rises, place-there}
use Rattle.cache_entries.specs.declared.Cached.{Cached}
use Rattle.cache_entries.specs.Limits.{max_clusters}
use Rattle.cache_entries.specs.Entries.{held_of, cluster_order}
use Rattle.cache_entries.specs.Coherent.{versions_from, coherent_at, unseen, joined_all, shared_in}
use Rattle.cache_entries.proofs.SharedLaws.{shares-say}
use Rattle.cache_messages.specs.Filters.{Bounded, lower, better_of, least_by, version_filter_if, filter_for, onwards, filters_from, filters_of, ranked_from}

-- a number below suc n is below n or is n
last-or-before : {P : Type 0} (k n : ℕ) → k < suc n → (k < n → P) → (k ≡ n → P) → P
last-or-before k n h f g = by-test (eqb k n) (λ t. g (eqb-true k n t)) (λ t. f (omega (arith, eqb-false k n t)))

module _ (l : List ℕ) (bound : ℕ) where
  -- THE SEARCH finds the least word that is not below the bound
  abbrev pub Least : ℕ → Option ℕ → Type 0
  Least n None = (k : ℕ) → k < n → get_or l k 0 < bound
  Least n (Some b) = (b < n) × (bound ≤ get_or l b 0) × ((k : ℕ) → k < n → bound ≤ get_or l k 0 → get_or l b 0 ≤ get_or l k 0)

  word-at : {j k : ℕ} → j ≡ k → get_or l j 0 ≡ get_or l k 0
  word-at e = ap (λ (x : ℕ). get_or l x 0) e

  too-low : (n : ℕ) (r : (Option ℕ)) → get_or l n 0 < bound → Least n r → Least (suc n) r
  too-low n None low h = λ k b. last-or-before k n b (h k) (λ e. omega (arith, low, word-at e))
  too-low n (Some b) low h =
      (omega (arith, h.0), h.1, λ k q f. last-or-before k n q (λ z. h.2 k z f) (λ e. absurd (omega (arith, low, f, word-at e))))

  one_more : (n : ℕ) (r : (Option ℕ)) → bound ≤ get_or l n 0 → Least n r → Least (suc n) (lower l n r)
  one_more n None low h =
      (omega arith, low, λ k q f. last-or-before k n q (λ z. absurd (omega (arith, f, h k z))) (λ e. omega (arith, word-at e)))
  one_more n (Some b) low h =
      pick-elim (Least (suc n)) (ltb (get_or l n 0) (get_or l b 0)) (Some n) (Some b)
      (λ t. (omega arith, low, λ k q f. last-or-before k n q (λ z. omega (arith, ltb-true (get_or l n 0) (get_or l b 0) t, h.2 k z f)) (λ e. omega (arith, word-at e))))
      (λ t. (omega (arith, h.0), h.1, λ k q f. last-or-before k n q (λ z. h.2 k z f) (λ e. omega (arith, ltb-false (get_or l n 0) (get_or l b 0) t, word-at e))))

  pub least : (n : ℕ) → Least n (least_by l bound n)
  unfolding least_by better_of
  least zero = λ k b. absurd (omega arith)
  least (suc n) =
      pick-elim (Least (suc n)) (ltb (get_or l n 0) bound) (least_by l bound n) (lower l n (least_by l bound n))
      (λ t. too-low n (least_by l bound n) (ltb-true (get_or l n 0) bound t) (least n)) (λ t. one_more n (least_by l bound n) (ltb-false (get_or l n 0) bound t) (least n))

module _ (words order : List ℕ) (n : ℕ) (ok : order_right words order n ≡ true) where
  -- the words of lower ranks are below the bound, and that of rank j is not
  pub record Next (j bound : ℕ) : Type 0 where
    pub lower-ranks : (i : ℕ) → i < j → ranked words order i < bound
    pub this-rank : j < n → bound ≤ ranked words order j

  pub next-begin : Next 0 0
  next-begin = record { lower-ranks = λ i l. absurd (omega arith); this-rank = λ l. omega arith }

  pub next_more : (j : ℕ) → j < n → Next (j + 1) (ranked words order j + 1)
  next_more j l =
      record {
        lower-ranks = λ i u. by-test (eqb i j) (λ t. rw (eqb-true i j t) (omega arith)) (λ f. omega (arith, order-rises words order n ok j l i (omega (arith, eqb-false i j f))));
        this-rank = λ u. omega (arith, order-rises words order n ok (j + 1) u j (omega arith));
      }

  -- THE LAW: it is the least word that is not below the bound
  pub rising-least : (j bound : ℕ) → j < n → Next j bound → least_by words bound n ≡ Some (get_or order j 0)
  rising-least j bound l next = go (least_by words bound n) (least words bound n)
    where
      here : get_or order j 0 < n
      here = places-at order n (order-places words order n ok) j l

      go : (r : (Option ℕ)) → Least words bound n r → r ≡ Some (get_or order j 0)
      go None h = absurd (omega (arith, h (get_or order j 0) here, next.this-rank l))
      go (Some b) h =
          let (a, la, q) = place-there words order n ok b h.0 in
          let word : ranked words order a ≡ get_or words b 0 = ap (λ (s : ℕ). get_or words s 0) q in
          by-test (ltb a j)
          (λ t. absurd (omega (arith, word, h.1, next.lower-ranks a (ltb-true a j t))))
          (λ f. by-test (ltb j a)
          (λ t. absurd (omega (arith, word, order-rises words order n ok a la j (ltb-true j a t), h.2 (get_or order j 0) here (next.this-rank l))))
          (λ g. let e : a ≡ j = omega (arith, ltb-false a j f, ltb-false j a g) in
          ap Some (sym q ∙ ap (λ (s : ℕ). get_or order s 0) e)))

-- so the filters are those of the clusters one after the other, where a word for each says whether it is coherent
module _ (c : Cached) (shares : List ℕ) (ok : order_right c.clusters (cluster_order c.order) c.cluster_count ≡ true) (say : (k : ℕ) → k < c.cluster_count → shared_in (get_or shares k 0) ≡ coherent_at c k) where
  abbrev order : List ℕ
  order = cluster_order c.order

  rising-from : (m j bound : ℕ) → m + j ≡ c.cluster_count → Next c.clusters order c.cluster_count ok j bound → filters_from c m bound ≡ ranked_from c.clusters order shares m j
  unfolding filters_from ranked_from filter_for
  rising-from zero j bound e next = refl
  rising-from (suc m) j bound e next =
      let l : j < c.cluster_count = omega arith in
      let word = ranked c.clusters order j in
      ap (onwards c (λ b. filters_from c m b)) (rising-least c.clusters order c.cluster_count ok j bound l next)
      ∙ ap (λ (o : Option ℕ). version_filter_if word o ++ filters_from c m (word + 1)) (sym (say (get_or order j 0) (places-at order c.cluster_count (order-places c.clusters order c.cluster_count ok) j l)))
      ∙ ap (λ (r : List VersionFilter). version_filter_if word (shared_in (get_or shares (get_or order j 0) 0)) ++ r) (rising-from m (j + 1) (word + 1) (omega arith) (next_more c.clusters order c.cluster_count ok j l))

  pub rising-filters : filters_of c ≡ ranked_from c.clusters order shares c.cluster_count 0
  unfolding filters_of
  rising-filters = rising-from c.cluster_count 0 0 (omega arith) (next-begin c.clusters order c.cluster_count ok)

-- before the cache is primed there is none
module _ (c : Cached) (f : c.primed ≡ false) where
  unprimed : (k : ℕ) → coherent_at c k ≡ None
  unfolding coherent_at
  unprimed k = rw f refl

  unprimed-from : (m bound : ℕ) → filters_from c m bound ≡ []
  unfolding filters_from filter_for
  unprimed-from zero bound = refl
  unprimed-from (suc m) bound = on (least_by c.clusters bound c.cluster_count) (λ b. unprimed-from m b)
    where
      on : (r : (Option ℕ)) → ((b : ℕ) → filters_from c m b ≡ []) → onwards c (λ b. filters_from c m b) r ≡ []
      on None rest = refl
      on (Some k) rest = rw (unprimed k) (rest (get_or c.clusters k 0 + 1))

  pub unprimed-none : filters_of c ≡ []
  unfolding filters_of
  unprimed-none = unprimed-from c.cluster_count 0

-- what a cache lends: the words that one pass over the entries leaves say which clusters are coherent
module _ {clusters keys versions order : List ℕ} {k n : ℕ} (b : Bounded clusters keys versions order k n) (kinds words lengths : List ℕ) where
  pub lent-filters : (primed : Bool) → primed ≡ true → (shares : List ℕ) → ((i : ℕ) → i < max_clusters → get_or shares i 0 ≡ joined_all unseen (versions_from keys versions i n 0)) → filters_of (held_of clusters keys versions kinds words order lengths k n primed) ≡ ranked_from clusters (cluster_order order) shares k 0
  unfolding coherent_at
  lent-filters primed t shares h =
      rising-filters (held_of clusters keys versions kinds words order lengths k n primed) shares b.cluster-order
      (λ i l. ap (λ (so : ℕ). shared_in so) (h i (omega (arith, l, b.few-clusters))) ∙ shares-say keys versions i n b.versions-right ∙ rw t refl)
