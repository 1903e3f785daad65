-- A CLUSTER IS COHERENT AT THE CACHE EXACTLY IF IT IS IN THE PROTOCOL, and only a cluster of the schema is.
use Rattle.std.specs.Prelude.{Some}
use mathlib.Core.Path.{◌≡◌, sym, ap, ◌∙◌}
use mathlib.Core.Logic.{◌↔◌}
use mathlib.Core.List.{List, Memᴰ}
use Prim.Native.Nat.{ℕ, ◌%◌, ◌^◌, ◌<◌}
use native.Mathlib.Omega.{arith}
use lib.ListN.{get_or}
use Rattle.tlv_reader.specs.Value.{Datum}
use Rattle.node_schema.specs.Rows.{cluster_row, attribute_row, count_of_clusters}
use Rattle.node_schema.specs.Rules.{AttributePath, path_at, Rules}
use Rattle.node_schema.proofs.RulesLaws.{path-word, cluster-rules}
use Rattle.node_schema.proofs.PathLaws.{one-cluster, cluster-there}
use Rattle.cache_entries.specs.declared.Cached.{Cached}
use Rattle.cache_entries.specs.Limits.{half}
use Rattle.cache_entries.specs.Entries as cached
use Rattle.cache_entries.specs.Entries.{cluster_word, cluster_at, entry_of, lookup}
use Rattle.cache_entries.specs.Coherent.{Of}
use Rattle.cache_entries.proofs.CoherentLaws.{coherent-exactly}
use Rattle.cache_state.specs.declared.CacheState.{CacheState}
use Rattle.cache_ask.specs.Ask.{coherent_of}
use Rattle.proof_protocol.specs.Model.{ConcretePath, Entry, Cache, CoherentIn}
use Rattle.proof_refinement.specs.Bytes.{EntryRight}
use Rattle.proof_refinement.specs.Cache.{CacheAs}
use Rattle.proof_cache_steps.proofs.EntryLaws.{word-at, cluster-held, stands, held-there, coherent-held, coherent-there}

-- the cluster of an entry is a row of the schema
pub record OfRow (w : List ℕ) (d : Entry Datum) : Type 0 where
  pub there : d.place.cluster < count_of_clusters w
  pub endpoint : (path_at w d.place.attribute).endpoint ≡ (cluster_row w d.place.cluster).endpoint
  pub cluster : (path_at w d.place.attribute).cluster ≡ (cluster_row w d.place.cluster).cluster
  pub attribute : (path_at w d.place.attribute).attribute < 2 ^ 32

module _ (w : List ℕ) (rules : Rules w) where
  pub of_row : (d : Entry Datum) → EntryRight w d → OfRow w d
  of_row d r =
      let i = d.place.attribute in
      let here : (attribute_row w i).index_of_cluster < count_of_clusters w = cluster-there w rules i r.row in
      let same : d.place.cluster ≡ (attribute_row w i).index_of_cluster = ap (λ (p : ConcretePath). p.cluster) r.place in
      let is = path-word w i here in
      record {
        there = omega (arith, here, same);
        endpoint = ap (λ (p : AttributePath). p.endpoint) is ∙ ap (λ (k : ℕ). (cluster_row w k).endpoint) (sym same);
        cluster = ap (λ (p : AttributePath). p.cluster) is ∙ ap (λ (k : ℕ). (cluster_row w k).cluster) (sym same);
        attribute = omega arith;
      }

  module _ (sent : List (List ℕ)) (page : List ℕ) (s : CacheState) (c : Cache Datum) (cache : CacheAs w sent page s c) where
    abbrev held : Cached
    held = s.held

    -- ONLY a cluster of the schema is coherent
    pub coherent-row : (endpoint cluster v : ℕ) → endpoint < 2 ^ 16 → cluster < 2 ^ 32 → coherent_of held (cluster_word endpoint cluster) ≡ Some v
        → (k : ℕ) × (k < count_of_clusters w) × ((cluster_row w k).endpoint ≡ endpoint) × ((cluster_row w k).cluster ≡ cluster)
    coherent-row endpoint cluster v fe fl h =
        let (j, at, q) = coherent-held held (cluster_word endpoint cluster) v h in
        let (b, is) = word-at held.clusters held.cluster_count (cluster_word endpoint cluster) j at in
        let (k, l, row) = cache.held.cluster-rows j b in
        (k, l, omega (arith, is, row, fl), omega (arith, is, row, fl))

    module _ (k : ℕ) (l : k < count_of_clusters w) where
      abbrev word : ℕ
      word = cluster_word (cluster_row w k).endpoint (cluster_row w k).cluster

      -- an entry of the protocol, at its place in the arrays
      looked-up : (d : Entry Datum) → Memᴰ d c.entries → d.place.cluster ≡ k
          → lookup held page (cluster_row w k).endpoint (cluster_row w k).cluster (path_at w d.place.attribute).attribute ≡ Some (record { version = d.version; value = d.value })
      looked-up d m e =
          let r = of_row d (cache.held.right d m) in
          let q : AttributePath = path_at w d.place.attribute in
          let pe : q.endpoint ≡ (cluster_row w k).endpoint = r.endpoint ∙ ap (λ (n : ℕ). (cluster_row w n).endpoint) e in
          let pc : q.cluster ≡ (cluster_row w k).cluster = r.cluster ∙ ap (λ (n : ℕ). (cluster_row w n).cluster) e in
          sym (λ i. lookup held page (pe i) (pc i) q.attribute) ∙ cache.held.has d m

      placed : (j : ℕ) → cluster_at held word ≡ Some j → (d : Entry Datum) → Memᴰ d c.entries → d.place.cluster ≡ k
          → (i : ℕ) × (i < held.count) × Of held j i × (get_or held.versions i 0 ≡ d.version)
      placed j at d m e =
          let (i, b, key, is) = stands held page (cluster_row w k).endpoint (cluster_row w k).cluster j at (path_at w d.place.attribute).attribute (looked-up d m e) in
          (i, b, omega (arith, key, (of_row d (cache.held.right d m)).attribute), ap (λ (x : cached.CacheEntry). x.version) is)

      -- and one at a place of the arrays, in the protocol
      shown : (j i : ℕ) → cluster_at held word ≡ Some j → i < held.count → Of held j i
          → (d : Entry Datum) × Memᴰ d c.entries × (d.version ≡ get_or held.versions i 0) × (d.place.cluster ≡ k)
      shown j i at b o =
          let f = cluster-rules w rules k l in
          let x = cache.held.only (cluster_row w k).endpoint (cluster_row w k).cluster (get_or held.keys i 0 % half) f.endpoint f.cluster (omega arith) (entry_of held page i) (held-there held page (cluster_row w k).endpoint (cluster_row w k).cluster j at cache.held.keys-once i b o) in
          let r = of_row x.entry (cache.held.right x.entry x.there) in
          let same : x.entry.place.cluster ≡ k = one-cluster w rules x.entry.place.cluster k r.there l (sym r.endpoint ∙ ap (λ (p : AttributePath). p.endpoint) x.same) (sym r.cluster ∙ ap (λ (p : AttributePath). p.cluster) x.same) in
          (x.entry, x.there, x.version, same)

      to : (v : ℕ) → coherent_of held word ≡ Some v → CoherentIn c k v
      to v h =
          let (j, at, q) = coherent-held held word v h in
          let (primed, low, (i, a, b, o), all) = (coherent-exactly held j v).0 q in
          let some = shown j i at (omega (arith, b)) o in
          record {
            primed-is = cache.primed ∙ primed;
            same = λ d m e. let (i, b, o, version) = placed j at d m e in sym version ∙ all i (omega arith) (omega (arith, b)) o;
            some = (some.0, some.1, some.3);
          }

      from : (v : ℕ) → CoherentIn c k v → coherent_of held word ≡ Some v
      from v h =
          let (d, m, e) = h.some in
          let (j, at) = cluster-held held page (cluster_row w k).endpoint (cluster_row w k).cluster (path_at w d.place.attribute).attribute (looked-up d m e) in
          let (i, b, o, version) = placed j at d m e in
          coherent-there held word j at
          ∙ (coherent-exactly held j v).1 (
            sym cache.primed ∙ h.primed-is,
            omega (arith, (cache.held.right d m).version, h.same d m e),
            (i, omega arith, omega (arith, b), o),
            λ n low high o. let (x, mx, vx, ex) = shown j n at (omega (arith, high)) o in sym vx ∙ h.same x mx ex,
          )

      pub coherent-as : (v : ℕ) → (coherent_of held word ≡ Some v) ↔ CoherentIn c k v
      coherent-as v = (to v, from v)
