-- The filters written one after the other.
use Rattle.std.specs.Prelude.{Some, None, Option}
use mathlib.Core.Path.{◌≡◌, refl, sym, ap, ◌∙◌}
use mathlib.Core.Bool.{Bool, true, false}
use mathlib.Core.List.{List, [], ◌∷◌, ◌++◌, map, append-nil, append_assoc}
use Prim.Native.Nat.{ℕ, suc, ◌+◌, ◌-◌, ◌*◌, ◌≤◌, ◌<◌}
use native.Mathlib.Omega.{arith}
use lib.ListN.{get_or}
use Rattle.tlv_reader.specs.Tree.{Tree}
use Rattle.base_octets.specs.Store.{Stored, store}
use Rattle.base_octets.proofs.StoreLaws.{then}
use Rattle.im_requests.specs.declared.VersionFilter.{VersionFilter}
use Rattle.im_writer.specs.Spelling.{spelling, joined}
use Rattle.cache_order.specs.Order.{ranked}
use Rattle.cache_entries.specs.declared.Cached.{Cached}
use Rattle.cache_entries.specs.Limits.{max_clusters}
use Rattle.cache_entries.specs.Entries.{held_of, cluster_order}
use Rattle.cache_entries.specs.Coherent.{versions_from, unseen, joined_all, shared_in}
use Rattle.cache_messages.specs.Filters.{Bounded, version_filter_as, version_filter_if, filters_of, ranked_from, filter_tree_of}
use Rattle.cache_messages.proofs.RisingLaws.{unprimed-none, lent-filters}

never : {A : Type 0} → ◌≡◌ {A = ℕ} 0 1 → A
never e = absurd (omega arith)

-- one tree, and none
joined-one : (t : Tree) → spelling t ≡ joined (t ∷ [])
unfolding joined
joined-one t = sym (append-nil (spelling t))

pub none_written : {o : List ℕ} {at : ℕ} → Stored o at (joined (map filter_tree_of [])) o at
unfolding joined store
none_written = record { content = refl; place = omega arith }

-- the filters of a cache: none before it is primed, then those written by the order, where `shares` is what one pass over the entries leaves
pub cache-unprimed : (c : Cached) {o : List ℕ} {at : ℕ} → c.primed ≡ false → Stored o at (joined (map filter_tree_of (filters_of c))) o at
cache-unprimed c f = rw (unprimed-none c f) none_written

pub cache-primed : {clusters keys versions order part o o₁ : List ℕ} {k n at p : ℕ} → Bounded clusters keys versions order k n → (primed : Bool) → primed ≡ true → (shares : List ℕ) → ((i : ℕ) → i < max_clusters → get_or shares i 0 ≡ joined_all unseen (versions_from keys versions i n 0)) → part ≡ cluster_order order → Stored o at (joined (map filter_tree_of (ranked_from clusters part shares k 0))) o₁ p → (kinds words lengths : List ℕ) → Stored o at (joined (map filter_tree_of (filters_of (held_of clusters keys versions kinds words order lengths k n primed)))) o₁ p
cache-primed b primed t shares h q s kinds words lengths = rw (lent-filters b kinds words lengths primed t shares h, ← q) s

module _ (word : ℕ) (said : Option ℕ) {o : List ℕ} {at : ℕ} where
  pub filter-written : {o₁ : List ℕ} {p : ℕ} (v : ℕ) → said ≡ Some v → Stored o at (spelling (filter_tree_of (version_filter_as word v))) o₁ p → Stored o at (joined (map filter_tree_of (version_filter_if word said))) o₁ p
  filter-written v e s = rw (e, ← (joined-one (filter_tree_of (version_filter_as word v)))) s

  pub filter-left-out : said ≡ None → Stored o at (joined (map filter_tree_of (version_filter_if word said))) o at
  filter-left-out e = rw e none_written

-- trees of two lists
joined-both : (a b : List VersionFilter) → joined (map filter_tree_of (a ++ b)) ≡ joined (map filter_tree_of a) ++ joined (map filter_tree_of b)
unfolding joined
joined-both [] b = refl
joined-both (x ∷ a) b = ap (λ (r : List ℕ). spelling (filter_tree_of x) ++ r) (joined-both a b) ∙ sym (append_assoc (spelling (filter_tree_of x)) (joined (map filter_tree_of a)) (joined (map filter_tree_of b)))

module _ (clusters order shares : List ℕ) (n : ℕ) where
  -- a filter for the cluster of rank j
  abbrev at-rank : ℕ → List VersionFilter
  at-rank j = version_filter_if (ranked clusters order j) (shared_in (get_or shares (get_or order j 0) 0))

  abbrev all : List VersionFilter
  all = ranked_from clusters order shares n 0

  -- what the loop knows: the filters written so far, after which the definition goes on
  pub record Written (old : List ℕ) (start : ℕ) (new : List ℕ) (at j : ℕ) : Type 0 where
    pub filters : List VersionFilter
    pub goes_on : all ≡ filters ++ ranked_from clusters order shares (n - j) j
    pub stored : Stored old start (joined (map filter_tree_of filters)) new at
    pub near : at ≤ start + j * 21

  pub filters-begin : (old : List ℕ) (start : ℕ) → Written old start old start 0
  filters-begin old start = record {
    filters = [];
    goes_on = ap (λ (m : ℕ). ranked_from clusters order shares m 0) (omega arith);
    stored = none_written;
    near = omega arith;
  }

  module _ {old new : List ℕ} {start at j : ℕ} (w : Written old start new at j) where
    from-here : {m : ℕ} → n - j ≡ m → all ≡ w.filters ++ ranked_from clusters order shares m j
    from-here e = w.goes_on ∙ ap (λ (m : ℕ). w.filters ++ ranked_from clusters order shares m j) e

    pub filters-done : n ≤ j → Stored old start (joined (map filter_tree_of all)) new at
    unfolding ranked_from
    filters-done l =
        let q : all ≡ w.filters = from-here {m = 0} (omega (arith, l)) ∙ append-nil w.filters in
        rw q w.stored

    -- one cluster more
    pub filters-more : {next : List ℕ} {p : ℕ} → j < n → Stored new at (joined (map filter_tree_of (at-rank j))) next p → p ≤ at + 21 → Written old start next p (j + 1)
    unfolding ranked_from
    filters-more l s near = record {
      filters = w.filters ++ at-rank j;
      goes_on = from-here {m = suc (n - (j + 1))} (omega (arith, l)) ∙ sym (append_assoc w.filters (at-rank j) (ranked_from clusters order shares (n - (j + 1)) (j + 1)));
      stored = rw (joined-both w.filters (at-rank j)) (then w.stored s);
      near = omega (arith, w.near, near);
    }
