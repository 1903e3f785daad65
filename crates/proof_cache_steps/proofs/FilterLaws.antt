-- THE FILTERS OF A READ ARE THE PROTOCOL'S: one for each coherent cluster and no other.
use Rattle.std.specs.Prelude.{Some, None, Option}
use mathlib.Core.Path.{◌≡◌, refl, sym, subst, ◌∙◌}
use mathlib.Core.List.Memᴰ
use mathlib.Core.List.{List, [], ◌∷◌, Memᴰ}
use Prim.Native.Nat.{ℕ, ◌/◌, ◌%◌, ◌^◌, ◌<◌}
use native.Mathlib.Omega.{arith}
use lib.ListN.{get_or}
use Rattle.tlv_reader.specs.Value.{Datum}
use Rattle.node_schema.specs.Rows.{cluster_row, count_of_clusters}
use Rattle.node_schema.specs.Rules.{Rules}
use Rattle.node_schema.specs.Find.{find_cluster}
use Rattle.node_schema.proofs.RulesLaws.{cluster-rules}
use Rattle.node_schema.proofs.FindLaws.{cluster-found, cluster-none}
use Rattle.node_schema.proofs.PathLaws.{one-cluster}
use Rattle.im_requests.specs.declared.VersionFilter.{VersionFilter}
use Rattle.im_writer.specs.Spelling.{Each}
use Rattle.cache_entries.specs.declared.Cached.{Cached}
use Rattle.cache_entries.specs.Limits.{half}
use Rattle.cache_entries.specs.Entries.{cluster_word, cluster_at}
use Rattle.cache_entries.proofs.ValidLaws.{cluster-below}
use Rattle.cache_messages.specs.Filters.{filters_of}
use Rattle.cache_state.specs.declared.CacheState.{CacheState}
use Rattle.cache_ask.specs.Ask.{coherent_of}
use Rattle.proof_trip.specs.Exact.{FilterOf}
use Rattle.proof_trip.proofs.ExactLaws.{filters-exact, filters-complete}
use Rattle.proof_protocol.specs.Model.{Filter, Cache, CoherentIn, FiltersFor}
use Rattle.proof_refinement.specs.Terms.{row_found, cluster_number, filter_as, filters_as}
use Rattle.proof_refinement.specs.Cache.{CacheAs}
use Rattle.proof_cache_parts.proofs.OnceLaws.{found-once}
use Rattle.proof_cache_steps.proofs.EntryLaws.{word-at, coherent-held, coherent-there}
use Rattle.proof_cache_steps.proofs.CoherentLaws.{of_row, coherent-row, coherent-as}

each_at : {A : Type 0} (P : A → Type 0) (l : List A) → Each P l → (x : A) → Memᴰ x l → P x
unfolding Each
each_at P [] h x m = absurd (Memᴰ.not-nil m)
each_at P (y ∷ l) h x (Memᴰ.head e) = subst P (sym e) h.0
each_at P (y ∷ l) h x (Memᴰ.tail m) = each_at P l h.1 x m

module _ (w : List ℕ) (rules : Rules w) where
  -- the row of a cluster is found
  number_is : (k : ℕ) → k < count_of_clusters w → (e c : ℕ) → (cluster_row w k).endpoint ≡ e → (cluster_row w k).cluster ≡ c → cluster_number w e c ≡ k
  unfolding cluster_number
  number_is k l e c pe pc = go (find_cluster w e c) refl
    where
      go : (f : (Option ℕ)) → find_cluster w e c ≡ f → row_found (count_of_clusters w) f ≡ k
      go None q = absurd (cluster-none w e c q k l pe pc)
      go (Some i) q =
          let r = cluster-found w e c i q in
          one-cluster w rules i k r.0 l (r.1 ∙ sym pe) (r.2 ∙ sym pc)

  module _ (sent : List (List ℕ)) (page : List ℕ) (s : CacheState) (c : Cache Datum) (cache : CacheAs w sent page s c) where
    abbrev held : Cached
    held = s.held

    narrow : (j : ℕ) → j < held.cluster_count → get_or held.clusters j 0 < 2 ^ 48
    narrow j b = cluster-below page held cache.valid.held.right j b

    -- a cluster that is coherent at the cache is so under its number
    numbered : (e cl v : ℕ) → e < 2 ^ 16 → cl < 2 ^ 32 → coherent_of held (cluster_word e cl) ≡ Some v → CoherentIn c (cluster_number w e cl) v
    numbered e cl v fe fl h =
        let (k, l, pe, pc) = coherent-row w rules sent page s c cache e cl v fe fl h in
        subst (λ (n : ℕ). CoherentIn c n v) (sym (number_is k l e cl pe pc))
        ((coherent-as w rules sent page s c cache k l v).0 ((λ i. coherent_of held (cluster_word (pe i) (pc i))) ∙ h))

    -- a filter of the cache is for a coherent cluster
    one-coherent : (f : VersionFilter) → FilterOf held f → CoherentIn c (filter_as w f).cluster (filter_as w f).version
    one-coherent f r =
        let e : ℕ = get_or held.clusters r.place 0 / half % 2 ^ 16 in
        let cl : ℕ = get_or held.clusters r.place 0 % half in
        let at : cluster_at held (cluster_word e cl) ≡ Some r.place = found-once held.clusters held.cluster_count cache.held.clusters-once (cluster_word e cl) r.place r.there (omega (arith, narrow r.place r.there)) in
        subst (λ (g : VersionFilter). CoherentIn c (filter_as w g).cluster (filter_as w g).version) (sym r.same)
        (numbered e cl r.version (omega arith) (omega arith) (coherent-there held (cluster_word e cl) r.place at ∙ r.coherent))

    -- and a coherent cluster has one
    all-filtered : (cluster version : ℕ) → CoherentIn c cluster version → Memᴰ (record { cluster = cluster; version = version }) (filters_as w (filters_of held))
    all-filtered cluster version h =
        let (d, m, e) = h.some in
        let l : cluster < count_of_clusters w = omega (arith, e, (of_row w rules d (cache.held.right d m)).there) in
        let f = cluster-rules w rules cluster l in
        let row : ℕ = cluster_word (cluster_row w cluster).endpoint (cluster_row w cluster).cluster in
        let (j, at, q) = coherent-held held row version ((coherent-as w rules sent page s c cache cluster l version).1 h) in
        let (b, is) = word-at held.clusters held.cluster_count row j at in
        let number : cluster_number w (get_or held.clusters j 0 / half % 2 ^ 16) (get_or held.clusters j 0 % half) ≡ cluster = number_is cluster l _ _ (omega (arith, is, f.endpoint, f.cluster)) (omega (arith, is, f.cluster)) in
        Memᴰ.cast (λ i. record { cluster = sym number i; version = version }) (Memᴰ.map (filter_as w) (filters-complete held cache.held.clusters-once j version b q))

    pub filters-for : FiltersFor c (filters_as w (filters_of held))
    filters-for = record {
      only = λ f m. let (g, there, is) = Memᴰ.of_map (filter_as w) (filters_of held) m in
          subst (λ (x : Filter). CoherentIn c x.cluster x.version) is (one-coherent g (each_at (FilterOf held) (filters_of held) (filters-exact held) g there));
      all = all-filtered;
    }
