-- The grants: one level for each row in use, and what they say at a cluster.
use mathlib.Core.Path.{◌≡◌, refl, sym, ap, ◌∙◌}
use mathlib.Core.Logic.{◌↔◌}
use mathlib.Core.Bool.{true, false, and-false}
use mathlib.Core.List.{List, ◌++◌}
use Prim.Native.Nat.{ℕ, zero, suc, ◌+◌, ◌-◌, ◌≤◌, ◌<◌}
use native.Mathlib.Omega.{arith}
use borrow.Author.Tests.{lt-ltb, lt-leb}
use lib.Dec.{ltb}
use lib.ListN.{length, get_or, replicate}
use lib.Seq.{get_or-append-add}
use Rattle.base_bounds.specs.Bounds.{cluster_limit}
use Rattle.node_schema.specs.Rows.{ClusterRow, cluster_row, count_of_clusters, rows_from, filled}
use Rattle.node_schema.proofs.RowLaws.{rows-length, rows-map, filled_at}
use Rattle.node_access.specs.declared.AccessEntry.{AccessEntry}
use Rattle.node_access.specs.Access.{view, granted, SomeCovers, level_of, grants_of, is_granted}
use Rattle.node_access.proofs.AccessLaws.{level-granted, granted-exactly}

zeros : (n i : ℕ) → ◌≡◌ {A = ℕ} (get_or (replicate n 0) i 0) 0
zeros zero i = refl
zeros (suc n) zero = refl
zeros (suc n) (suc i) = zeros n i

module _ (es : List AccessEntry) (s : ℕ) (w : List ℕ) where
  abbrev pub level_at : ℕ → ℕ
  level_at i = level_of es s (cluster_row w i).endpoint (cluster_row w i).cluster

  pub grants-filled : (grants_of es s w).level ≡ filled 0 level_at cluster_limit (count_of_clusters w)
  unfolding grants_of
  grants-filled =
      ap (λ (l : List ℕ). l ++ replicate (cluster_limit - count_of_clusters w) 0) (rows-map (cluster_row w) (λ (r : ClusterRow). level_of es s r.endpoint r.cluster) (count_of_clusters w) 0)

  pub level_in : (i : ℕ) → i < count_of_clusters w → get_or (grants_of es s w).level i 0 ≡ level_at i
  level_in i h = ap (λ (l : List ℕ). get_or l i 0) grants-filled ∙ filled_at 0 level_at cluster_limit (count_of_clusters w) i 0 h

  -- the grants at a cluster of the schema are what the list grants at its endpoint and id
  pub grants-at : (i p : ℕ) → i < count_of_clusters w → view ≤ p → is_granted (grants_of es s w) i p ≡ granted es s (cluster_row w i).endpoint (cluster_row w i).cluster p
  unfolding is_granted
  grants-at i p h v =
      rw (lt-ltb i cluster_limit (omega arith), level_in i h) (level-granted s (cluster_row w i).endpoint (cluster_row w i).cluster es p v)

  pub grants-exactly : (i p : ℕ) → i < count_of_clusters w → view ≤ p → (is_granted (grants_of es s w) i p ≡ true) ↔ SomeCovers es s (cluster_row w i).endpoint (cluster_row w i).cluster p
  grants-exactly i p h v =
      let x = granted-exactly s (cluster_row w i).endpoint (cluster_row w i).cluster es p in
      (λ g. x.0 (sym (grants-at i p h v) ∙ g), λ r. grants-at i p h v ∙ x.1 r)

  -- nothing is granted at a row that is not in use
  level_out : (i : ℕ) → count_of_clusters w ≤ i → get_or (grants_of es s w).level i 0 ≡ 0
  level_out i h =
      let q : i ≡ length (rows_from level_at (count_of_clusters w) 0) + (i - count_of_clusters w) = omega (arith, rows-length level_at (count_of_clusters w) 0) in
      ap (λ (l : List ℕ). get_or l i 0) grants-filled
      ∙ ap (λ (j : ℕ). get_or (filled 0 level_at cluster_limit (count_of_clusters w)) j 0) q
      ∙ get_or-append-add (rows_from level_at (count_of_clusters w) 0) (replicate (cluster_limit - count_of_clusters w) 0) (i - count_of_clusters w) 0
      ∙ zeros (cluster_limit - count_of_clusters w) (i - count_of_clusters w)

  pub grants-none : (i p : ℕ) → count_of_clusters w ≤ i → view ≤ p → is_granted (grants_of es s w) i p ≡ false
  unfolding is_granted
  grants-none i p h v = rw (level_out i h, lt-leb p 0 (omega arith)) (and-false (ltb i cluster_limit))
