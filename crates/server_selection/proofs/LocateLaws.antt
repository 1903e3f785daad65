-- Which attribute a concrete path names: case by case for the code, and that what is found has that path.
use Rattle.std.specs.Prelude.{Some, None, Option}
use mathlib.Core.Path.{◌≡◌, refl, ap, ◌∙◌}
use mathlib.Core.Bool.{Bool, true, false}
use mathlib.Core.List.{List}
use Prim.Native.Nat.{ℕ, ◌<◌}
use native.Mathlib.Omega.{arith}
use Rattle.tlv_reader.specs.Octet.{pick}
use Rattle.node_schema.specs.Rows.{count_of_attributes}
use Rattle.node_schema.specs.Rules.{path, path_at, Rules}
use Rattle.node_schema.specs.Find.{find_cluster, find_attribute, in_cluster, has_endpoint}
use Rattle.node_schema.proofs.BoolLaws.{by-test}
use Rattle.node_schema.proofs.FindLaws.{path-found, path-none, cluster-found, endpoint-none}
use Rattle.server_selection.specs.Status.{unsupported_endpoint, unsupported_cluster}
use Rattle.server_selection.specs.Locate.{attribute_found, cluster_found, located}
use Rattle.server_selection.specs.declared.locate.Located.TheVariants.{Here, Refused}

module _ (w : List ℕ) (e c a : ℕ) where
  pub no-endpoint : has_endpoint w e ≡ false → located w e c a ≡ Refused unsupported_endpoint
  unfolding located
  no-endpoint h = rw h

  pub in-endpoint : has_endpoint w e ≡ true → located w e c a ≡ cluster_found w a (find_cluster w e c)
  unfolding located
  in-endpoint h = rw h

  pub no-cluster : has_endpoint w e ≡ true → find_cluster w e c ≡ None → located w e c a ≡ Refused unsupported_cluster
  no-cluster h k = in-endpoint h ∙ ap (cluster_found w a) k

  pub in-cluster : {k : ℕ} → has_endpoint w e ≡ true → find_cluster w e c ≡ Some k → located w e c a ≡ attribute_found (find_attribute w k a)
  in-cluster h k = in-endpoint h ∙ ap (cluster_found w a) k

  -- what is found has exactly that path
  pub located_here : (i : ℕ) → located w e c a ≡ Here i → (i < count_of_attributes w) × (path_at w i ≡ path e c a)
  unfolding located
  located_here i h = path-found w e c a i (by-endpoint (has_endpoint w e) h)
    where
      by-attribute : (f : (Option ℕ)) → attribute_found f ≡ Here i → f ≡ Some i
      by-attribute (Some j) q = cc
      by-attribute None q = let z : ◌≡◌ {A = ℕ} 0 1 = cc in absurd (omega arith)

      by-cluster : (f : (Option ℕ)) → cluster_found w a f ≡ Here i → in_cluster w a f ≡ Some i
      by-cluster (Some k) q = by-attribute (find_attribute w k a) q
      by-cluster None q = let z : ◌≡◌ {A = ℕ} 0 1 = cc in absurd (omega arith)

      by-endpoint : (b : Bool) → pick b (cluster_found w a (find_cluster w e c)) (Refused unsupported_endpoint) ≡ Here i → in_cluster w a (find_cluster w e c) ≡ Some i
      by-endpoint true q = by-cluster (find_cluster w e c) q
      by-endpoint false q = let z : ◌≡◌ {A = ℕ} 0 1 = cc in absurd (omega arith)

-- and in a well-formed schema every path is located: a status means that no attribute has it
module _ (w : List ℕ) (rules : Rules w) (e c a : ℕ) where
  attribute-refused : (s : ℕ) (f : (Option ℕ)) → attribute_found f ≡ Refused s → f ≡ None
  attribute-refused s (Some i) h = cc
  attribute-refused s None h = refl

  cluster-refused : (s : ℕ) (f : (Option ℕ)) → cluster_found w a f ≡ Refused s → in_cluster w a f ≡ None
  cluster-refused s (Some k) h = attribute-refused s (find_attribute w k a) h
  cluster-refused s None h = refl

  -- where there is no endpoint, there is no cluster on it
  endpoint-refused : has_endpoint w e ≡ false → (f : (Option ℕ)) → find_cluster w e c ≡ f → f ≡ None
  endpoint-refused t (Some k) h = let r = cluster-found w e c k h in absurd (endpoint-none w e t k r.0 r.1)
  endpoint-refused t None h = refl

  pub located-refused : (s : ℕ) → located w e c a ≡ Refused s → (i : ℕ) → i < count_of_attributes w → path_at w i ≡ path e c a → ⊥
  unfolding located
  located-refused s h =
      path-none w rules e c a
      (by-test (has_endpoint w e) (λ t. cluster-refused s (find_cluster w e c) (rw t at h))
      (λ t. ap (in_cluster w a) (endpoint-refused t (find_cluster w e c) refl)))
