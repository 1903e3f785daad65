-- What the rules give: in a well-formed schema paths rise strictly, each path is one attribute's, and a cluster's attributes stand in a row.
use Rattle.std.proofs.Common.{◌≡◌, ℕ, ◌<◌, ltb, List, subst, inl, inr, ⊎_elim, arith, ltb-false, ltb-true}
use Rattle.node_schema.specs.Rows.{cluster_row, attribute_row, count_of_clusters, count_of_attributes, clusters}
use Rattle.node_schema.specs.Rules.{AttributePath, path_of, path_at, PathBefore, Rules}
use Rattle.node_schema.proofs.BoolLaws.{by-test}
use Rattle.node_schema.proofs.RowLaws.{rows-map, rising-of}
use Rattle.node_schema.proofs.RulesLaws.{from-rules, attribute-rules}

-- no path is before itself
pub before-itself : (p : AttributePath) → PathBefore p p → ⊥
before-itself p (inl h) = omega arith
before-itself p (inr h) = ⊎_elim (λ l. omega arith) (λ l. omega arith) h.1

-- two indices are equal, or one is below the other
pub apart : {P : Type 0} (i j : ℕ) → (i < j → P) → (j < i → P) → (i ≡ j → P) → P
apart i j f g h =
    by-test (ltb i j) (λ t. f (ltb-true i j t))
    (λ t. by-test (ltb j i) (λ s. g (ltb-true j i s)) (λ s. h (omega (arith, ltb-false i j t, ltb-false j i s))))

module _ (w : List ℕ) (rules : Rules w) where
  -- in path order (endpoint, cluster, attribute) the attributes rise strictly
  pub paths-rise : (i j : ℕ) → i < j → j < count_of_attributes w → PathBefore (path_at w i) (path_at w j)
  paths-rise i j l u =
      rising-of (path_at w) PathBefore (count_of_attributes w) 0
      (rw (rows-map (attribute_row w) (path_of (clusters w)) (count_of_attributes w) 0) at rules.path_order) i j (omega arith) l (omega arith)

  -- two attributes with one path are the same attribute
  pub one-path : (i j : ℕ) → i < count_of_attributes w → j < count_of_attributes w → path_at w i ≡ path_at w j → i ≡ j
  one-path i j u v e =
      apart i j (λ l. absurd (before-itself (path_at w j) (subst (λ (p : AttributePath). PathBefore p (path_at w j)) e (paths-rise i j l v))))
      (λ l. absurd (before-itself (path_at w j) (subst (λ (p : AttributePath). PathBefore (path_at w j) p) e (paths-rise j i l u)))) (λ q. q)

  -- two cluster rows with one endpoint and cluster are the same row
  pub one-cluster : (i j : ℕ) → i < count_of_clusters w → j < count_of_clusters w → (cluster_row w i).endpoint ≡ (cluster_row w j).endpoint → (cluster_row w i).cluster ≡ (cluster_row w j).cluster → i ≡ j
  one-cluster i j u v e c =
      let o = (from-rules w rules).path_order in
      apart i j (λ l. absurd (omega (arith, o j v i l))) (λ l. absurd (omega (arith, o i u j l))) (λ q. q)

  -- the cluster of each attribute is one of the schema's
  pub cluster-there : (i : ℕ) → i < count_of_attributes w → (attribute_row w i).index_of_cluster < count_of_clusters w
  cluster-there i l = (attribute-rules w rules i l).cluster
