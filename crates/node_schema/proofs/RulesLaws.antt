-- The check answers true exactly if the rules hold of the decoded rows.
use Rattle.std.proofs.Common.{◌≡◌, ℕ, zero, suc, ◌+◌, ◌^◌, ◌<◌, ◌≤◌, true, eqb, ltb, ◌⊎◌, ◌↔◌, List, map, get_or, sym, ap, ◌∙◌, subst, subst₂, inl, inr, ⊎_elim, arith, ltb-false, ltb-true, eq-eqb, eqb-true}
use borrow.Author.Tests.{eqb-false}
use Rattle.base_bounds.specs.Bounds.{endpoint_limit}
use Rattle.node_schema.specs.Layout.{path_column, key_column, half}
use Rattle.node_schema.specs.Rows.{word, ClusterRow, cluster_row, attribute_row, count_of_clusters, count_of_attributes, clusters, attributes, rows_from, is_text}
use Rattle.node_schema.specs.Check.{count, rank, rank_right, endpoint_changes, well_formed}
use Rattle.node_schema.specs.Rules.{Rising, different, path, no_cluster, path_of, path_at, ClusterBefore, PathBefore, ClusterRules, AttributeRules, Ranked, Rules}
use Rattle.node_schema.proofs.BoolLaws.{by-test}
use Rattle.node_schema.proofs.RowLaws.{rows-length, rows_get, rows-map, each_of, each_all, rising-of, rising-all}
use Rattle.node_schema.proofs.CountLaws.{changes-count}
use Rattle.node_schema.proofs.OrderLaws.{to-halves, from_halves, word_path, to-before, from-before}
use Rattle.node_schema.proofs.TraitLaws.{to-traits, from-traits}
use Rattle.node_schema.proofs.IndexLaws.{ByIndex, to-index, from-index}

-- the ranks, from k on
module _ (w : List ℕ) where
  to-ranked : (n k : ℕ) → ((i : ℕ) → k ≤ i → i < n + k → rank_right w i ≡ true) → Ranked (rank w k) (rows_from (attribute_row w) n k)
  unfolding rows_from count
  to-ranked zero k h = tt
  to-ranked (suc n) k h =
      (λ t. eqb-true _ _ (rw t at (h k (omega arith) (omega arith))), to-ranked n (suc k) (λ i l u. h i (omega arith) (omega arith)))

  from-ranked : (n k : ℕ) → Ranked (rank w k) (rows_from (attribute_row w) n k) → (i : ℕ) → k ≤ i → i < n + k → rank_right w i ≡ true
  unfolding rows_from count
  from-ranked zero k h i l u = absurd (omega arith)
  from-ranked (suc n) k h i l u =
      by-test (eqb k i)
      (λ t. subst (λ (j : ℕ). rank_right w j ≡ true) (eqb-true k i t) (by-test (is_text (attribute_row w k)) (λ x. rw x (eq-eqb _ _ (h.0 x))) (λ x. rw x)))
      (λ t. from-ranked n (suc k) h.1 i (omega (arith, eqb-false k i t)) (omega arith))

  to-ranks : ((i : ℕ) → i < count_of_attributes w → rank_right w i ≡ true) → Ranked 0 (attributes w)
  unfolding count
  to-ranks h = to-ranked (count_of_attributes w) 0 (λ i l u. h i (omega arith))

  from-ranks : Ranked 0 (attributes w) → (i : ℕ) → i < count_of_attributes w → rank_right w i ≡ true
  unfolding count
  from-ranks h i l = from-ranked (count_of_attributes w) 0 h i (omega arith) (omega arith)

  -- the path of an attribute whose cluster is there
  pub path-word : (i : ℕ) → (attribute_row w i).index_of_cluster < count_of_clusters w → path_at w i ≡ word_path (word w path_column (attribute_row w i).index_of_cluster) (attribute_row w i).id
  path-word i h =
      let k = (attribute_row w i).index_of_cluster in
      let e : get_or (clusters w) k no_cluster ≡ cluster_row w k = rows_get (cluster_row w) (count_of_clusters w) 0 k no_cluster h ∙ ap (cluster_row w) (omega arith) in
      ap (λ (r : ClusterRow). path r.endpoint r.cluster (attribute_row w i).id) e

  -- the endpoints are counted right where the paths rise
  endpoint-count : ((i : ℕ) → i < count_of_clusters w → word w path_column i < 2 ^ 48) → ((j : ℕ) → j < count_of_clusters w → (i : ℕ) → i < j → word w path_column i < word w path_column j) → endpoint_changes w (count_of_clusters w) ≡ different (map (λ r. r.endpoint) (clusters w))
  endpoint-count b o =
      changes-count (rows_from (λ i. (cluster_row w i).endpoint) (count_of_clusters w) 0)
      (rising-all (λ i. (cluster_row w i).endpoint) ◌≤◌ (count_of_clusters w) 0 (λ i j l m u. omega (arith, o j (omega arith) i m)))
      (each_all (λ i. (cluster_row w i).endpoint) (λ e. e < half) (count_of_clusters w) 0 (λ i l u. omega (arith, b i (omega arith))))
      ∙ ap different (sym (rows-map (cluster_row w) (λ r. r.endpoint) (count_of_clusters w) 0))

-- keys rise exactly if paths do
module _ (w : List ℕ) (i j : ℕ)
    (order : (b : ℕ) → b < count_of_clusters w → (a : ℕ) → a < b → word w path_column a < word w path_column b)
    (hi : (attribute_row w i).index_of_cluster < count_of_clusters w) (hj : (attribute_row w j).index_of_cluster < count_of_clusters w) where
  keys-to-paths : word w key_column i < word w key_column j → PathBefore (path_at w i) (path_at w j)
  keys-to-paths h =
      subst₂ PathBefore (sym (path-word w i hi)) (sym (path-word w j hj))
      (to-before _ _ _ _
      (⊎_elim (λ l. inl (order _ hj _ l)) (λ e. inr (ap (λ (k : ℕ). word w path_column k) e.0, e.1))
      (to-halves (word w key_column i) (word w key_column j) h)))

  words-to-keys : (word w path_column (attribute_row w i).index_of_cluster < word w path_column (attribute_row w j).index_of_cluster) ⊎ ((word w path_column (attribute_row w i).index_of_cluster ≡ word w path_column (attribute_row w j).index_of_cluster) × ((attribute_row w i).id < (attribute_row w j).id)) → word w key_column i < word w key_column j
  words-to-keys h =
      let a = (attribute_row w i).index_of_cluster in
      let b = (attribute_row w j).index_of_cluster in
      by-test (ltb a b) (λ t. from_halves _ _ (inl (ltb-true a b t)))
      (λ t. by-test (eqb a b)
      (λ e. let q : word w path_column a ≡ word w path_column b = ap (λ (k : ℕ). word w path_column k) (eqb-true a b e) in
      ⊎_elim (λ l. absurd (omega arith)) (λ r. from_halves _ _ (inr (eqb-true a b e, r.1))) h)
      (λ e. let o = order a hi b (omega (arith, ltb-false a b t, eqb-false a b e)) in ⊎_elim (λ l. absurd (omega arith)) (λ r. absurd (omega arith)) h))

  paths-to-keys : PathBefore (path_at w i) (path_at w j) → word w key_column i < word w key_column j
  paths-to-keys h = words-to-keys (from-before _ _ _ _ (subst₂ PathBefore (path-word w i hi) (path-word w j hj) h))

module _ (w : List ℕ) where
  pub to-rules : ByIndex w → Rules w
  to-rules x =
      let n = count_of_clusters w in
      let m = count_of_attributes w in
      let inside : (i : ℕ) → i < m → (attribute_row w i).index_of_cluster < n = λ i l. omega (arith, x.key_below i l) in
      record {
        endpoint_number = subst (λ (k : ℕ). k ≤ endpoint_limit) (endpoint-count w x.path_below x.path_order) x.endpoints;
        cluster_number = x.cluster_number;
        attribute_number = x.attribute_number;
        cluster_order = rising-all (cluster_row w) ClusterBefore n 0 (λ i j l u v. to-halves _ _ (x.path_order j (omega arith) i u));
        path_order = subst (Rising PathBefore) (sym (rows-map (attribute_row w) (path_of (clusters w)) m 0))
            (rising-all (path_at w) PathBefore m 0
            (λ i j l u v. keys-to-paths w i j x.path_order (inside i (omega arith)) (inside j (omega arith)) (x.key_order j (omega arith) i u)));
        cluster_rules = each_all (cluster_row w) ClusterRules n 0
            (λ i l u. record { endpoint = omega (arith, x.path_below i (omega arith)); cluster = omega arith; version = x.versions i (omega arith) });
        attribute_rules = rw (rows-length (cluster_row w) n 0)
            (each_all (attribute_row w) (AttributeRules n) m 0
            (λ i l u. let t = to-traits _ (x.traits i (omega arith)) in
            record { cluster = inside i (omega arith); id = omega arith; kind = t.kind; nullable = t.nullable; read = t.read; write = t.write }));
        ranks = to-ranks w x.ranks;
        text_number = x.text_number;
        spare = x.spare;
      }

  -- the rules of a row, by index
  pub cluster-rules : Rules w → (i : ℕ) → i < count_of_clusters w → ClusterRules (cluster_row w i)
  cluster-rules r i l = each_of (cluster_row w) ClusterRules (count_of_clusters w) 0 r.cluster_rules i (omega arith) (omega arith)

  pub attribute-rules : Rules w → (i : ℕ) → i < count_of_attributes w → AttributeRules (count_of_clusters w) (attribute_row w i)
  attribute-rules r i l =
      each_of (attribute_row w) (AttributeRules (count_of_clusters w)) (count_of_attributes w) 0
      (rw (rows-length (cluster_row w) (count_of_clusters w) 0) at r.attribute_rules) i (omega arith) (omega arith)

  pub from-rules : Rules w → ByIndex w
  from-rules r =
      let n = count_of_clusters w in
      let m = count_of_attributes w in
      let cr = cluster-rules r in
      let ar = attribute-rules r in
      let below : (i : ℕ) → i < n → word w path_column i < 2 ^ 48 = λ i l. omega (arith, (cr i l).endpoint) in
      let order : (j : ℕ) → j < n → (i : ℕ) → i < j → word w path_column i < word w path_column j =
      λ j l i u. from_halves _ _ (rising-of (cluster_row w) ClusterBefore n 0 r.cluster_order i j (omega arith) u (omega arith)) in
      let before : Rising PathBefore (rows_from (path_at w) m 0) = subst (Rising PathBefore) (rows-map (attribute_row w) (path_of (clusters w)) m 0) r.path_order in
      record {
        spare = r.spare;
        cluster_number = r.cluster_number;
        attribute_number = r.attribute_number;
        path_below = below;
        path_order = order;
        versions = λ i l. (cr i l).version;
        endpoints = subst (λ (k : ℕ). k ≤ endpoint_limit) (sym (endpoint-count w below order)) r.endpoint_number;
        key_below = λ i l. omega (arith, (ar i l).cluster);
        key_order = λ j l i u.
            paths-to-keys w i j order (ar i (omega arith)).cluster (ar j l).cluster
            (rising-of (path_at w) PathBefore m 0 before i j (omega arith) u (omega arith));
        traits = λ i l. let a = ar i l in from-traits _ (record { kind = a.kind; nullable = a.nullable; read = a.read; write = a.write });
        ranks = from-ranks w r.ranks;
        text_number = r.text_number;
      }

  -- the theorem: the check and the rules agree, for any words
  pub well-formed-rules : (well_formed w ≡ true) ↔ Rules w
  well-formed-rules = (λ h. to-rules (to-index w h), λ r. from-index w (from-rules r))
