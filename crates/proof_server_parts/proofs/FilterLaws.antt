-- Filters skip an attribute in the protocol exactly if they skip its cluster's row.
use Rattle.std.specs.Prelude.{Some, None, Option}
use mathlib.Core.Path.{◌≡◌, refl, sym, ap, ◌∙◌}
use mathlib.Core.Bool.{true, not, ◌&&◌, ◌||◌}
use mathlib.Core.List.{List, [], ◌∷◌}
use Prim.Native.Nat.{ℕ, ◌<◌}
use native.Mathlib.Omega.{arith}
use borrow.Author.Tests.{eqb-true, eq-eqb}
use lib.Dec.{eqb}
use Rattle.node_schema.specs.Rows.{cluster_row, count_of_clusters}
use Rattle.node_schema.specs.Rules.{Rules}
use Rattle.node_schema.specs.Find.{find_cluster}
use Rattle.node_schema.proofs.BoolLaws.{both, left, right, same}
use Rattle.node_schema.proofs.PathLaws.{one-cluster}
use Rattle.node_schema.proofs.FindLaws.{cluster-found, cluster-none}
use Rattle.im_requests.specs.declared.VersionFilter.{VersionFilter}
use Rattle.server_selection.specs.Filters.{on, some, agree, skips_by}
use Rattle.proof_protocol.specs.Model.{Filter, Cluster, any, every, skips}
use Rattle.proof_refinement.specs.Terms.{row_found, cluster_number, filters_as}

-- row k of the schema's clusters
module _ (w : List ℕ) (rules : Rules w) (k : ℕ) (there : k < count_of_clusters w) where
  abbrev endpoint : ℕ
  endpoint = (cluster_row w k).endpoint

  abbrev cluster : ℕ
  cluster = (cluster_row w k).cluster

  -- a filter is for row k exactly if it names its endpoint and its cluster
  row_named : (f : VersionFilter) → on endpoint cluster f ≡ eqb (cluster_number w f.endpoint f.cluster) k
  unfolding cluster_number on
  row_named f =
      same _ _ (λ t. to (find_cluster w f.endpoint f.cluster) refl (eqb-true f.endpoint endpoint (left _ _ t)) (eqb-true f.cluster cluster (right (eqb f.endpoint endpoint) _ t)))
      (from (find_cluster w f.endpoint f.cluster) refl)
    where
      to : (x : (Option ℕ)) → find_cluster w f.endpoint f.cluster ≡ x → f.endpoint ≡ endpoint → f.cluster ≡ cluster → eqb (row_found (count_of_clusters w) x) k ≡ true
      to (Some i) e p q = let r = cluster-found w f.endpoint f.cluster i e in eq-eqb i k (one-cluster w rules i k r.0 there (r.1 ∙ p) (r.2 ∙ q))
      to None e p q = absurd (cluster-none w f.endpoint f.cluster e k there (sym p) (sym q))

      from : (x : (Option ℕ)) → find_cluster w f.endpoint f.cluster ≡ x → eqb (row_found (count_of_clusters w) x) k ≡ true → (eqb f.endpoint endpoint && eqb f.cluster cluster) ≡ true
      from (Some i) e t =
          let r = cluster-found w f.endpoint f.cluster i e in
          let p : (cluster_row w i).endpoint ≡ endpoint = ap (λ (j : ℕ). (cluster_row w j).endpoint) (eqb-true i k t) in
          let q : (cluster_row w i).cluster ≡ cluster = ap (λ (j : ℕ). (cluster_row w j).cluster) (eqb-true i k t) in
          both _ _ (eq-eqb _ _ (sym r.1 ∙ p)) (eq-eqb _ _ (sym r.2 ∙ q))
      from None e t = absurd (omega (arith, eqb-true (count_of_clusters w) k t))

  some-any : (fs : List VersionFilter) → some endpoint cluster fs ≡ any (λ (f : Filter). eqb f.cluster k) (filters_as w fs)
  unfolding some
  some-any [] = refl
  some-any (f ∷ fs) = rw (row_named f, some-any fs)

  agree-every : (version : ℕ) (fs : List VersionFilter)
      → agree endpoint cluster version fs ≡ every (λ (f : Filter). not (eqb f.cluster k) || eqb f.version version) (filters_as w fs)
  unfolding agree
  agree-every version [] = refl
  agree-every version (f ∷ fs) = rw (row_named f, agree-every version fs)

  -- an attribute of that cluster, at the version that this has
  pub skips-same : {Value : Type 0} (clusters : ℕ → Cluster Value) (version : ℕ) → (clusters k).version ≡ version → (fs : List VersionFilter) (attribute : ℕ)
      → skips_by fs endpoint cluster version ≡ skips (filters_as w fs) clusters (record { cluster = k; attribute = attribute })
  unfolding skips_by skips
  skips-same clusters version e fs attribute = rw (e, some-any fs, agree-every version fs)
