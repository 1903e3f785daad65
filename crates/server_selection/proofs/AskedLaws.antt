-- The path of an attribute as the code puts it together.
use mathlib.Core.Path.{◌≡◌, sym, ap, ◌∙◌}
use mathlib.Core.Bool.{true, ◌&&◌}
use mathlib.Core.List.{List}
use Prim.Native.Nat.{ℕ, ◌<◌}
use Rattle.node_schema.specs.Rows.{cluster_row, attribute_row, count_of_clusters, count_of_attributes}
use Rattle.node_schema.specs.Rules.{AttributePath, path, path_at}
use Rattle.node_schema.specs.Check.{well_formed}
use Rattle.node_schema.proofs.BoolLaws.{left, right}
use Rattle.node_schema.proofs.RulesLaws.{path-word, well-formed-rules}
use Rattle.node_schema.proofs.PathLaws.{cluster-there}
use Rattle.server_selection.specs.declared.asked.Asked.{Asked}
use Rattle.server_selection.specs.Asked.{asks_for, unbound}

module _ (w : List ℕ) (formed : well_formed w ≡ true) (i : ℕ) (l : i < count_of_attributes w) where
  pub cluster-of : (attribute_row w i).index_of_cluster < count_of_clusters w
  cluster-of = cluster-there w ((well-formed-rules w).0 formed) i l

  pub path-of : {k e c a : ℕ} → k ≡ (attribute_row w i).index_of_cluster → e ≡ (cluster_row w k).endpoint → c ≡ (cluster_row w k).cluster → a ≡ (attribute_row w i).id → path e c a ≡ path_at w i
  path-of q r s t =
      (λ j. path ((r ∙ ap (λ (x : ℕ). (cluster_row w x).endpoint) q) j) ((s ∙ ap (λ (x : ℕ). (cluster_row w x).cluster) q) j) (t j))
      ∙ sym (path-word w i cluster-of)

-- a path of which no part is named asks for everything
pub asks-everything : (p : Asked) (q : AttributePath) → unbound p ≡ true → true ≡ asks_for p q
unfolding unbound asks_for
asks-everything p q h =
    let two = left (p.any_endpoint && p.any_cluster) p.any_attribute h in
    rw (left p.any_endpoint p.any_cluster two, right p.any_endpoint p.any_cluster two, right (p.any_endpoint && p.any_cluster) p.any_attribute h)
