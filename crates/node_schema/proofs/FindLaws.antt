-- What is found has that path; nothing found means that no row of the schema has it.
use Rattle.std.proofs.Common.{◌≡◌, ℕ, ◌<◌, false, eqb, ltb, List, sym, refl, ap, ◌∙◌, true≢false, arith, ltb-true, lt-ltb, eq-eqb, eqb-true, Some, None, Option}
use mathlib.Core.Bool.{false≢true}
use Rattle.base_bounds.specs.Bounds.{cluster_limit}
use Rattle.node_schema.specs.Rows.{cluster_row, attribute_row, count_of_clusters, count_of_attributes}
use Rattle.node_schema.specs.Rules.{AttributePath, path, path_at, Rules}
use Rattle.node_schema.specs.Search.{first, is_found}
use Rattle.node_schema.specs.Find.{cluster_is, attribute_is, find_cluster, find_attribute, in_cluster, find_path, has_endpoint}
use Rattle.node_schema.proofs.BoolLaws.{both, left, right, by-test}
use Rattle.node_schema.proofs.SearchLaws.{found, none}
use Rattle.node_schema.proofs.RulesLaws.{path-word}
use Rattle.node_schema.proofs.PathLaws.{one-cluster, cluster-there}

module _ (w : List ℕ) where
  pub cluster-found : (e c i : ℕ) → find_cluster w e c ≡ Some i → (i < count_of_clusters w) × ((cluster_row w i).endpoint ≡ e) × ((cluster_row w i).cluster ≡ c)
  cluster-found e c i h =
      let r = found (λ k. cluster_is e c (cluster_row w k)) (count_of_clusters w) 0 i h in
      (omega arith, eqb-true _ _ (left _ _ r.holds), eqb-true _ _ (right (eqb (cluster_row w i).endpoint e) _ r.holds))

  pub cluster-none : (e c : ℕ) → find_cluster w e c ≡ None → (i : ℕ) → i < count_of_clusters w → (cluster_row w i).endpoint ≡ e → (cluster_row w i).cluster ≡ c → ⊥
  cluster-none e c h i l p q =
      false≢true (sym (none (λ k. cluster_is e c (cluster_row w k)) (count_of_clusters w) 0 i h (omega arith) (omega arith)) ∙ both _ _ (eq-eqb _ _ p) (eq-eqb _ _ q))

  attribute-search : (k a : ℕ) (f : (Option ℕ)) → find_attribute w k a ≡ f → k < cluster_limit → first (λ j. attribute_is k a (attribute_row w j)) (count_of_attributes w) 0 ≡ f
  attribute-search k a f h l = rw (lt-ltb k cluster_limit l) at h

  within : (k a i : ℕ) → find_attribute w k a ≡ Some i → k < cluster_limit
  within k a i h =
      by-test (ltb k cluster_limit) (ltb-true k cluster_limit) (λ t. let g : None ≡ Some i = rw t at h in let z : ◌≡◌ {A = ℕ} 0 1 = cc in absurd (omega arith))

  pub attribute-found : (k a i : ℕ) → find_attribute w k a ≡ Some i → (i < count_of_attributes w) × ((attribute_row w i).index_of_cluster ≡ k) × ((attribute_row w i).id ≡ a)
  attribute-found k a i h =
      let r = found (λ j. attribute_is k a (attribute_row w j)) (count_of_attributes w) 0 i (attribute-search k a (Some i) h (within k a i h)) in
      (omega arith, eqb-true _ _ (left _ _ r.holds), eqb-true _ _ (right (eqb (attribute_row w i).index_of_cluster k) _ r.holds))

  pub attribute-none : (k a : ℕ) → k < cluster_limit → find_attribute w k a ≡ None → (i : ℕ) → i < count_of_attributes w → (attribute_row w i).index_of_cluster ≡ k → (attribute_row w i).id ≡ a → ⊥
  attribute-none k a b h i l p q =
      false≢true
      (sym (none (λ j. attribute_is k a (attribute_row w j)) (count_of_attributes w) 0 i (attribute-search k a None h b) (omega arith) (omega arith))
      ∙ both _ _ (eq-eqb _ _ p) (eq-eqb _ _ q))

  off-endpoint : (e : ℕ) (f : (Option ℕ)) → first (λ k. eqb (cluster_row w k).endpoint e) (count_of_clusters w) 0 ≡ f → is_found f ≡ false → (i : ℕ) → i < count_of_clusters w → (cluster_row w i).endpoint ≡ e → ⊥
  off-endpoint e (Some k) h t i l p = true≢false t
  off-endpoint e None h t i l p =
      false≢true (sym (none (λ k. eqb (cluster_row w k).endpoint e) (count_of_clusters w) 0 i h (omega arith) (omega arith)) ∙ eq-eqb _ _ p)

  pub endpoint-none : (e : ℕ) → has_endpoint w e ≡ false → (i : ℕ) → i < count_of_clusters w → (cluster_row w i).endpoint ≡ e → ⊥
  endpoint-none e t = off-endpoint e _ refl t

  -- a whole path: what is found has it
  path-in : (e c a i : ℕ) (f : (Option ℕ)) → find_cluster w e c ≡ f → in_cluster w a f ≡ Some i → (i < count_of_attributes w) × (path_at w i ≡ path e c a)
  path-in e c a i (Some k) h g =
      let r = cluster-found e c k h in
      let s = attribute-found k a i g in
      let pe : (cluster_row w (attribute_row w i).index_of_cluster).endpoint ≡ e = ap (λ (j : ℕ). (cluster_row w j).endpoint) s.1 ∙ r.1 in
      let pc : (cluster_row w (attribute_row w i).index_of_cluster).cluster ≡ c = ap (λ (j : ℕ). (cluster_row w j).cluster) s.1 ∙ r.2 in
      (s.0, path-word w i (omega arith) ∙ (λ t. path (pe t) (pc t) (s.2 t)))
  path-in e c a i None h g = let z : ◌≡◌ {A = ℕ} 0 1 = cc in absurd (omega arith)

  pub path-found : (e c a i : ℕ) → find_path w e c a ≡ Some i → (i < count_of_attributes w) × (path_at w i ≡ path e c a)
  path-found e c a i h = path-in e c a i (find_cluster w e c) refl h

module _ (w : List ℕ) (rules : Rules w) where
  path-out : (e c a : ℕ) (f : (Option ℕ)) → find_cluster w e c ≡ f → in_cluster w a f ≡ None → (i : ℕ) → i < count_of_attributes w → path (cluster_row w (attribute_row w i).index_of_cluster).endpoint (cluster_row w (attribute_row w i).index_of_cluster).cluster (attribute_row w i).id ≡ path e c a → ⊥
  path-out e c a None h g i l p =
      cluster-none w e c h (attribute_row w i).index_of_cluster (cluster-there w rules i l) (ap (λ (q : AttributePath). q.endpoint) p) (ap (λ (q : AttributePath). q.cluster) p)
  path-out e c a (Some k) h g i l p =
      let r = cluster-found w e c k h in
      let q : (attribute_row w i).index_of_cluster ≡ k =
      one-cluster w rules _ k (cluster-there w rules i l) r.0 (ap (λ (x : AttributePath). x.endpoint) p ∙ sym r.1) (ap (λ (x : AttributePath). x.cluster) p ∙ sym r.2) in
      attribute-none w k a (omega arith) g i l q (ap (λ (x : AttributePath). x.attribute) p)

  -- nothing found: no attribute of a well-formed schema has that path
  pub path-none : (e c a : ℕ) → find_path w e c a ≡ None → (i : ℕ) → i < count_of_attributes w → path_at w i ≡ path e c a → ⊥
  path-none e c a h i l p = path-out e c a (find_cluster w e c) refl h i l (sym (path-word w i (cluster-there w rules i l)) ∙ p)
