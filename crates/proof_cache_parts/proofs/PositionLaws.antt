-- THERE IS ALWAYS ROOM: what is held stands for rows of the schema, no row twice, so a further row has a spot, and held there it stands for its row.
use Rattle.std.specs.Prelude.{Some, None, Option}
use mathlib.Core.Path.{◌≡◌, refl, sym, ap, subst, ◌∙◌}
use mathlib.Core.List.{List}
use Prim.Native.Nat.{ℕ, ◌/◌, ◌%◌, ◌<◌}
use native.Mathlib.Omega.{arith}
use borrow.Author.Tests.{eqb-true, eqb-false, lt-ltb}
use lib.Dec.{eqb}
use lib.ListN.{get_or, set}
use lib.Seq.{get_or-set_same, get_or-set_other}
use Rattle.tlv_reader.specs.Value.{Datum}
use Rattle.node_schema.specs.Rows.{cluster_row, attribute_row, count_of_clusters, count_of_attributes}
use Rattle.node_schema.specs.Rules.{AttributePath, path, path_at, Rules}
use Rattle.node_schema.proofs.BoolLaws.{by-test}
use Rattle.node_schema.proofs.RulesLaws.{path-word, cluster-rules, attribute-rules}
use Rattle.node_schema.proofs.PathLaws.{cluster-there}
use Rattle.im_writer.specs.Meaning.{PathFits}
use Rattle.cache_entries.specs.declared.Cached.{Cached}
use Rattle.cache_entries.specs.Limits.{max_entries, max_clusters, half}
use Rattle.cache_entries.specs.Entries as cached
use Rattle.cache_entries.specs.Entries.{cluster_word, key_word, cluster_at, entry_at, entry_of, lookup}
use Rattle.cache_entries.specs.Set.{cluster_place, entry_place, with_cluster, with_entry}
use Rattle.cache_entries.proofs.SetLaws.{placed-next, placed_below, counted-other}
use Rattle.cache_entries.proofs.ValidLaws.{cluster-below, key_below_lem}
use Rattle.cache_report.specs.declared.block.NewEntry.{NewEntry}
use Rattle.cache_report.specs.Entry.{entry_position, position_of, position_number, with_item, held_at, Good}
use Rattle.cache_report.proofs.EntryLaws.{Goes, position-goes}
use Rattle.proof_trip.specs.Exact.{Distinct}
use Rattle.proof_protocol.specs.Model.{Entry}
use Rattle.proof_refinement.specs.Cache.{DistinctKeys, ClusterRows, HeldAs}
use Rattle.proof_cache_parts.proofs.RoomLaws.{room-left}
use Rattle.proof_cache_parts.proofs.OnceLaws.{not_there, found-once, once-set}

module _ (w : List ℕ) (rules : Rules w) (row : ℕ) (l : row < count_of_attributes w) where
  -- the path of a row, by the row of its cluster
  row-path : path_at w row ≡ path (cluster_row w (attribute_row w row).index_of_cluster).endpoint (cluster_row w (attribute_row w row).index_of_cluster).cluster (attribute_row w row).id
  row-path = path-word w row (cluster-there w rules row l)

  pub row_fits : PathFits (path_at w row).endpoint (path_at w row).cluster (path_at w row).attribute
  row_fits =
      let c = cluster-rules w rules (attribute_row w row).index_of_cluster (cluster-there w rules row l) in
      subst (λ (p : AttributePath). PathFits p.endpoint p.cluster p.attribute) (sym row-path)
      (record { endpoint-fits = c.endpoint; cluster-fits = c.cluster; attribute-fits = (attribute-rules w rules row l).id })

module _ (w : List ℕ) (rules : Rules w) (page : List ℕ) (c : Cached) (good : Good page c) (entries : List (Entry Datum)) (held : HeldAs w page c entries) where
  abbrev n : ℕ
  n = c.cluster_count

  -- the entry at j: its key, the word of its cluster, its path
  abbrev key : ℕ → ℕ
  key j = get_or c.keys j 0

  abbrev word : ℕ → ℕ
  word j = get_or c.clusters (key j / half) 0

  abbrev held_path : ℕ → AttributePath
  held_path j = path (word j / half) (word j % half) (key j % half)

  in-cluster : (j : ℕ) → j < c.count → key j / half < n
  in-cluster j b = key_below_lem c good.right.entries j b

  -- it is found by its path
  stands : (j : ℕ) → j < c.count → lookup c page (word j / half) (word j % half) (key j % half) ≡ Some (entry_of c page j)
  unfolding lookup cached.path_at
  stands j b =
      ap (λ (f : (Option ℕ)). cached.at_entry c page (cached.in_cluster c (key j % half) f)) (found-once c.clusters n held.clusters-once _ (key j / half) (in-cluster j b) (omega arith))
      ∙ ap (cached.at_entry c page) (found-once c.keys c.count held.keys-once _ j b (omega arith))

  -- so it has a row
  entry_row : (j : ℕ) → j < c.count → (r : ℕ) × (r < count_of_attributes w) × (path_at w r ≡ held_path j)
  entry_row j b =
      let low = cluster-below page c good.right (key j / half) (in-cluster j b) in
      let f = held.only (word j / half) (word j % half) (key j % half) (omega (arith, low)) (omega arith) (omega arith) (entry_of c page j) (stands j b) in
      (f.entry.place.attribute, (held.right f.entry f.there).row, f.same)

  same-entry : (i j r : ℕ) → i < c.count → j < c.count → path_at w r ≡ held_path i → path_at w r ≡ held_path j → i ≡ j
  same-entry i j r a b p q =
      let e : held_path i ≡ held_path j = sym p ∙ q in
      let words : word i ≡ word j = omega (arith, ap (λ (x : AttributePath). x.endpoint) e, ap (λ (x : AttributePath). x.cluster) e) in
      let places = held.clusters-once (key i / half) (key j / half) (in-cluster i a) (in-cluster j b) words in
      held.keys-once i j a b (omega (arith, places, ap (λ (x : AttributePath). x.attribute) e))

  module _ (x : NewEntry) (row : ℕ) (l : row < count_of_attributes w) (own : path_at w row ≡ path x.endpoint x.cluster x.attribute) where
    abbrev item_word : ℕ
    item_word = cluster_word x.endpoint x.cluster

    abbrev index_of_cluster : ℕ
    index_of_cluster = (attribute_row w row).index_of_cluster

    item-row : item_word ≡ cluster_word (cluster_row w index_of_cluster).endpoint (cluster_row w index_of_cluster).cluster
    item-row = let e = sym own ∙ row-path w rules row l in omega (arith, ap (λ (p : AttributePath). p.endpoint) e, ap (λ (p : AttributePath). p.cluster) e)

    -- ROOM for an entry that no entry held is, and for a cluster that is not held
    entries-left : ((j : ℕ) → j < c.count → path_at w row ≡ held_path j → ⊥) → c.count < max_entries
    entries-left none =
        omega (arith, room-left (count_of_attributes w) c.count (λ j r. path_at w r ≡ held_path j) row l entry_row same-entry none)

    clusters-left : ((k : ℕ) → k < n → get_or c.clusters k 0 ≡ item_word → ⊥) → n < max_clusters
    clusters-left none =
        omega (
          arith,
          room-left (count_of_clusters w) n (λ k r. get_or c.clusters k 0 ≡ cluster_word (cluster_row w r).endpoint (cluster_row w r).cluster) index_of_cluster (cluster-there w rules row l) held.cluster-rows
              (λ i j r a b p q. held.clusters-once i j a b (p ∙ sym q)) (λ k b e. none k b (e ∙ sym item-row)),
        )

    -- an entry of the item's path: its cluster, and its attribute
    its-word : (j : ℕ) → path_at w row ≡ held_path j → word j ≡ item_word
    its-word j p = let e = sym p ∙ own in omega (arith, ap (λ (y : AttributePath). y.endpoint) e, ap (λ (y : AttributePath). y.cluster) e)

    its-attribute : (j : ℕ) → path_at w row ≡ held_path j → key j % half ≡ x.attribute
    its-attribute j p = ap (λ (y : AttributePath). y.attribute) (sym p ∙ own)

    in_place : (k : ℕ) → ((j : ℕ) → j < c.count → path_at w row ≡ held_path j → key j ≡ key_word k x.attribute) → position_number (entry_position c k x.attribute) ≡ 0
    unfolding entry_position entry_place
    in_place k h = go (entry_at c (key_word k x.attribute)) refl
      where
        go : (f : (Option ℕ)) → entry_at c (key_word k x.attribute) ≡ f → position_number (entry_position c k x.attribute) ≡ 0
        go (Some i) e = rw e refl
        go None e = rw (e, lt-ltb c.count max_entries (entries-left (λ j b p. not_there c.keys c.count _ e j b (h j b p)))) refl

    -- A SPOT
    pub position-there : position_number (position_of c x) ≡ 0
    unfolding position_of cluster_place
    position-there = go (cluster_at c item_word) refl
      where
        go : (f : (Option ℕ)) → cluster_at c item_word ≡ f → position_number (position_of c x) ≡ 0
        go (Some k) e = rw e (in_place k
            (λ j b p. let q = found-once c.clusters n held.clusters-once item_word (key j / half) (in-cluster j b) (its-word j p) in
            let same : k ≡ key j / half = cc in
            omega (arith, same, its-attribute j p)))
        go None e = rw (e, lt-ltb n max_clusters (clusters-left (not_there c.clusters n item_word e)))
            (in_place n (λ j b p. absurd (not_there c.clusters n item_word e (key j / half) (in-cluster j b) (its-word j p))))

    -- the item set: still no cluster and no entry twice, and each cluster one of the schema's
    pub set-once : (p : (Option (ℕ × ℕ))) → position_of c x ≡ p → Distinct (held_at c x p) × DistinctKeys (held_at c x p) × ClusterRows w (held_at c x p)
    unfolding with_item with_entry with_cluster cluster_place entry_place
    set-once None q = (held.clusters-once, held.keys-once, held.cluster-rows)
    set-once (Some (k, i)) q = (
      once-set c.clusters n held.clusters-once max_clusters item_word k good.right.few-clusters (omega (arith, good.whole.clusters)) goes.cluster,
      once-set c.keys c.count held.keys-once max_entries (key_word k x.attribute) i good.right.few-entries (omega (arith, good.whole.keys)) goes.entry,
      rows,
    )
      where
        goes : Goes c x k i
        goes = position-goes c x k i q

        rows : ClusterRows w (with_item c k i x)
        rows j b = by-test (eqb j k)
            (λ t. (index_of_cluster, cluster-there w rules row l, ap (λ (m : ℕ). get_or (set c.clusters k item_word) m 0) (eqb-true j k t) ∙ get_or-set_same c.clusters k item_word 0 (omega (arith, placed_below c.clusters n max_clusters item_word k good.right.few-clusters goes.cluster, good.whole.clusters)) ∙ item-row))
            (λ f. let apart = eqb-false j k f in
            let (r, low, e) = held.cluster-rows j (counted-other n k j (placed-next c.clusters n max_clusters item_word k goes.cluster) apart b) in
            (r, low, get_or-set_other c.clusters k j item_word 0 apart ∙ e))
