-- THE FILTERS OF A READ ARE EXACTLY THE COHERENT CLUSTERS, IN RISING ORDER.
use Rattle.std.specs.Prelude.{Some, None, Option}
use mathlib.Core.Path.{◌≡◌, refl, sym, ap, subst}
use mathlib.Core.Bool.{true, false}
use mathlib.Core.List.{List, [], ◌∷◌, ◌++◌, Memᴰ}
use Prim.Native.Nat.{ℕ, zero, suc, ◌+◌, ◌^◌, ◌≤◌, ◌<◌}
use native.Mathlib.Omega.{arith}
use borrow.Author.Tests.{eqb-true, eqb-false, ltb-true, ltb-false, le-ltb, lt-ltb}
use lib.Dec.{eqb, ltb}
use lib.ListN.{get_or}
use Rattle.tlv_reader.specs.Octet.{pick}
use Rattle.tlv_reader.proofs.Picks.{pick-elim}
use Rattle.node_schema.proofs.BoolLaws.{by-test}
use Rattle.im_requests.specs.declared.VersionFilter.{VersionFilter}
use Rattle.im_writer.specs.Spelling.{Each}
use Rattle.cache_entries.specs.declared.Cached.{Cached}
use Rattle.cache_entries.specs.Coherent.{coherent_at}
use Rattle.cache_messages.specs.Filters.{least_by, version_filter_as, version_filter_if, filter_for, onwards, filters_from, filters_of}
use Rattle.cache_messages.proofs.RisingLaws.{Least, least}
use Rattle.proof_trip.specs.Exact.{FilterOf, word_of, Rising, Distinct}
use Rattle.proof_trip.proofs.EachLaws.{each_both}

-- a number below suc n is below n or is n
last-or-before : {P : Type 0} (k n : ℕ) → k < suc n → (k < n → P) → (k ≡ n → P) → P
last-or-before k n h f g = by-test (eqb k n) (λ t. g (eqb-true k n t)) (λ t. f (omega (arith, eqb-false k n t)))

-- the words at one place
word-at : (l : List ℕ) {j k : ℕ} → j ≡ k → get_or l j 0 ≡ get_or l k 0
word-at l e = ap (λ (x : ℕ). get_or l x 0) e

-- how many of the first n words are not below the bound
unfoldable left : List ℕ → ℕ → ℕ → ℕ
left l bound zero = 0
left l bound (suc n) = pick (ltb (get_or l n 0) bound) (left l bound n) (left l bound n + 1)

module _ (l : List ℕ) where
  left-few : (bound n : ℕ) → left l bound n ≤ n
  unfolding left
  left-few bound zero = omega arith
  left-few bound (suc n) =
      pick-elim (λ (x : ℕ). x ≤ suc n) (ltb (get_or l n 0) bound) (left l bound n) (left l bound n + 1)
      (λ _. omega (arith, left-few bound n)) (λ _. omega (arith, left-few bound n))

  left-some : (bound n k : ℕ) → k < n → bound ≤ get_or l k 0 → 0 < left l bound n
  unfolding left
  left-some bound zero k b h = absurd (omega arith)
  left-some bound (suc n) k b h =
      pick-elim (λ (x : ℕ). 0 < x) (ltb (get_or l n 0) bound) (left l bound n) (left l bound n + 1)
      (λ t. last-or-before k n b (λ z. left-some bound n k z h) (λ e. absurd (omega (arith, h, ltb-true (get_or l n 0) bound t, word-at l e))))
      (λ _. omega arith)

  module _ (low high : ℕ) (order : low ≤ high) where
    left-fewer : (n : ℕ) → left l high n ≤ left l low n
    unfolding left
    left-fewer zero = omega arith
    left-fewer (suc n) =
        by-test (ltb (get_or l n 0) low)
        (λ t. by-test (ltb (get_or l n 0) high) (λ u. rw (t, u) (left-fewer n)) (λ u. absurd (omega (arith, order, ltb-true (get_or l n 0) low t, ltb-false (get_or l n 0) high u))))
        (λ t. by-test (ltb (get_or l n 0) high) (λ u. rw (t, u) (omega (arith, left-fewer n))) (λ u. rw (t, u) (omega (arith, left-fewer n))))

    -- one that is between them counts for the lower bound alone
    left-drops : (n b : ℕ) → b < n → low ≤ get_or l b 0 → get_or l b 0 < high → left l high n < left l low n
    unfolding left
    left-drops zero b z f g = absurd (omega arith)
    left-drops (suc n) b z f g = last-or-before b n z
        (λ y. by-test (ltb (get_or l n 0) low)
        (λ t. by-test (ltb (get_or l n 0) high) (λ u. rw (t, u) (left-drops n b y f g)) (λ u. absurd (omega (arith, order, ltb-true (get_or l n 0) low t, ltb-false (get_or l n 0) high u))))
        (λ t. by-test (ltb (get_or l n 0) high) (λ u. rw (t, u) (omega (arith, left-drops n b y f g))) (λ u. rw (t, u) (omega (arith, left-drops n b y f g)))))
        (λ e. let t : ltb (get_or l n 0) low ≡ false = le-ltb (get_or l n 0) low (omega (arith, f, word-at l e)) in
        let u : ltb (get_or l n 0) high ≡ true = lt-ltb (get_or l n 0) high (omega (arith, g, word-at l e)) in
        rw (t, u) (omega (arith, left-fewer n)))

-- in the second of two lists
mem-right : {x : VersionFilter} (a b : List VersionFilter) → Memᴰ x b → Memᴰ x (a ++ b)
mem-right [] b h = h
mem-right (y ∷ a) b h = Memᴰ.tail (mem-right a b h)

module _ (c : Cached) where
  abbrev word : ℕ → ℕ
  word k = get_or c.clusters k 0

  abbrev n : ℕ
  n = c.cluster_count

  -- EACH of the filters is one of a coherent cluster
  one-exact : (k : ℕ) → k < n → Each (FilterOf c) (filter_for c k (word k))
  unfolding filter_for Each
  one-exact k b = go (coherent_at c k) refl
    where
      go : (o : Option ℕ) → coherent_at c k ≡ o → Each (FilterOf c) (version_filter_if (word k) o)
      go None e = tt
      go (Some v) e = (record { place = k; version = v; there = b; coherent = e; same = refl }, tt)

  from-exact : (m bound : ℕ) → Each (FilterOf c) (filters_from c m bound)
  unfolding filters_from Each
  from-exact zero bound = tt
  from-exact (suc m) bound = go (least_by c.clusters bound n) (least c.clusters bound n) (from-exact m)
    where
      go : (r : (Option ℕ)) → Least c.clusters bound n r → ((b : ℕ) → Each (FilterOf c) (filters_from c m b)) → Each (FilterOf c) (onwards c (λ b. filters_from c m b) r)
      go None h rest = tt
      go (Some k) h rest = each_both (FilterOf c) (filter_for c k (word k)) (filters_from c m (word k + 1)) (one-exact k h.0) (rest (word k + 1))

  pub filters-exact : Each (FilterOf c) (filters_of c)
  unfolding filters_of
  filters-exact = from-exact n 0

  -- THEY RISE
  lower-bound : (a b : ℕ) (l : List VersionFilter) → a ≤ b → Rising b l → Rising a l
  unfolding Rising
  lower-bound a b [] h r = tt
  lower-bound a b (f ∷ l) h r = (omega (arith, h, r.0), r.1)

  module _ (words : (k : ℕ) → k < c.cluster_count → get_or c.clusters k 0 < 2 ^ 48) where
    word_back : (k v : ℕ) → k < n → word_of (version_filter_as (word k) v) ≡ word k
    word_back k v b = omega (arith, words k b)

    from-rise : (m bound : ℕ) → Rising bound (filters_from c m bound)
    unfolding filters_from filter_for Rising
    from-rise zero bound = tt
    from-rise (suc m) bound = go (least_by c.clusters bound n) (least c.clusters bound n) (from-rise m)
      where
        with-filter : (k : ℕ) → k < n → bound ≤ word k → Rising (word k + 1) (filters_from c m (word k + 1)) → (o : Option ℕ) → Rising bound (version_filter_if (word k) o ++ filters_from c m (word k + 1))
        with-filter k b low rest None = lower-bound bound (word k + 1) (filters_from c m (word k + 1)) (omega (arith, low)) rest
        with-filter k b low rest (Some v) =
            (omega (arith, low, word_back k v b), subst (λ (w : ℕ). Rising (w + 1) (filters_from c m (word k + 1))) (sym (word_back k v b)) rest)

        go : (r : (Option ℕ)) → Least c.clusters bound n r → ((b : ℕ) → Rising b (filters_from c m b)) → Rising bound (onwards c (λ b. filters_from c m b) r)
        go None h rest = tt
        go (Some k) h rest = with-filter k h.0 h.1 (rest (word k + 1)) (coherent_at c k)

    pub filters-rise : Rising 0 (filters_of c)
    unfolding filters_of
    filters-rise = from-rise n 0

  -- NONE IS MISSING
  module _ (distinct : Distinct c) (k v : ℕ) (b : k < c.cluster_count) (e : coherent_at c k ≡ Some v) where
    abbrev Has : List VersionFilter → Type 0
    Has l = Memᴰ (version_filter_as (word k) v) l

    from-complete : (m bound : ℕ) → left c.clusters bound n ≤ m → bound ≤ word k → Has (filters_from c m bound)
    unfolding filters_from filter_for
    from-complete zero bound few low = absurd (omega (arith, few, left-some c.clusters bound n k b low))
    from-complete (suc m) bound few low = go (least_by c.clusters bound n) (least c.clusters bound n) (from-complete m)
      where
        go : (r : (Option ℕ)) → Least c.clusters bound n r → ((d : ℕ) → left c.clusters d n ≤ m → d ≤ word k → Has (filters_from c m d)) → Has (onwards c (λ d. filters_from c m d) r)
        go None h rest = absurd (omega (arith, low, h k b))
        go (Some j) h rest = by-test (eqb (word j) (word k))
            (λ t. let q : j ≡ k = distinct j k h.0 b (eqb-true (word j) (word k) t) in
            subst (λ (i : ℕ). Has (filter_for c i (word i) ++ filters_from c m (word i + 1))) (sym q) (rw e (Memᴰ.head refl)))
            (λ t. mem-right (filter_for c j (word j)) (filters_from c m (word j + 1)) (rest (word j + 1) (omega (arith, few, left-drops c.clusters bound (word j + 1) (omega (arith, h.1)) n j h.0 h.1 (omega arith))) (omega (arith, eqb-false (word j) (word k) t, h.2 k b low))))

    pub filters-complete : Memᴰ (version_filter_as (get_or c.clusters k 0) v) (filters_of c)
    unfolding filters_of
    filters-complete = from-complete n 0 (left-few c.clusters 0 n) (omega arith)
