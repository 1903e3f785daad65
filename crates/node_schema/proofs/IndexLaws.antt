-- What the check says, by index.
use Rattle.std.proofs.Common.{◌≡◌, ℕ, ◌*◌, ◌^◌, ◌<◌, ◌≤◌, true, ltb, leb, List, get_or, arith, ltb-true, lt-ltb, le-leb, leb-true}
use Rattle.base_bounds.specs.Bounds.{endpoint_limit, cluster_limit, attribute_limit}
use Rattle.node_schema.specs.Layout.{text_limit, cluster_count_word, attribute_count_word, spare_column, spare_count, path_column, version_column, key_column, traits_column, half}
use Rattle.node_schema.specs.Rows.{word, count_of_clusters, count_of_attributes}
use Rattle.node_schema.specs.Check.{rises, all_below, endpoint_changes, traits_right, all_traits, rank_right, all_ranks, ranks_right, count_of_texts, clusters_right, attributes_right, columns_right, well_formed}
use Rattle.node_schema.proofs.BoolLaws.{both, left, right}
use Rattle.node_schema.proofs.CheckLaws.{every-at, every-all, rises-below, rises-order, rises-all}

pub record ByIndex (w : List ℕ) : Type 0 where
  pub spare : (i : ℕ) → i < spare_count → word w spare_column i ≡ 0
  pub cluster_number : get_or w cluster_count_word 0 ≤ cluster_limit
  pub attribute_number : get_or w attribute_count_word 0 ≤ attribute_limit
  pub path_below : (i : ℕ) → i < count_of_clusters w → word w path_column i < 2 ^ 48
  pub path_order : (j : ℕ) → j < count_of_clusters w → (i : ℕ) → i < j → word w path_column i < word w path_column j
  pub versions : (i : ℕ) → i < count_of_clusters w → word w version_column i < half
  pub endpoints : endpoint_changes w (count_of_clusters w) ≤ endpoint_limit
  pub key_below : (i : ℕ) → i < count_of_attributes w → word w key_column i < count_of_clusters w * half
  pub key_order : (j : ℕ) → j < count_of_attributes w → (i : ℕ) → i < j → word w key_column i < word w key_column j
  pub traits : (i : ℕ) → i < count_of_attributes w → traits_right (word w traits_column i) ≡ true
  pub ranks : (i : ℕ) → i < count_of_attributes w → rank_right w i ≡ true
  pub text_number : count_of_texts w ≤ text_limit

module _ (w : List ℕ) where
  clusters-index : clusters_right w (count_of_clusters w) ≡ true → (rises w path_column (count_of_clusters w) (2 ^ 48) ≡ true) × (all_below w version_column (count_of_clusters w) half ≡ true) × (endpoint_changes w (count_of_clusters w) ≤ endpoint_limit)
  clusters-index h =
      let t = right (rises w path_column (count_of_clusters w) (2 ^ 48)) _ h in
      (left _ _ h, left _ _ t, leb-true _ _ (right (all_below w version_column (count_of_clusters w) half) _ t))

  attributes-index : attributes_right w (count_of_clusters w) (count_of_attributes w) ≡ true → (rises w key_column (count_of_attributes w) (count_of_clusters w * half) ≡ true) × (all_traits w (count_of_attributes w) ≡ true)
  attributes-index h = (left _ _ h, right (rises w key_column (count_of_attributes w) (count_of_clusters w * half)) _ h)

  pub to-index : well_formed w ≡ true → ByIndex w
  unfolding well_formed
  to-index h =
      let h0 = left (columns_right w) (ranks_right w) h in
      let h1 = right (all_below w spare_column spare_count 1) _ h0 in
      let h2 = right (leb (get_or w cluster_count_word 0) cluster_limit) _ h1 in
      let h3 = right (leb (get_or w attribute_count_word 0) attribute_limit) _ h2 in
      let h4 = right (columns_right w) (ranks_right w) h in
      let cs = clusters-index (left _ _ h3) in
      let bs = attributes-index (right (clusters_right w (count_of_clusters w)) _ h3) in
      record {
        spare = λ i l. omega (arith, ltb-true (word w spare_column i) 1 (every-at (λ k. ltb (word w spare_column k) 1) spare_count (left _ _ h0) i l));
        cluster_number = leb-true _ _ (left _ _ h1);
        attribute_number = leb-true _ _ (left _ _ h2);
        path_below = rises-below w path_column (count_of_clusters w) (2 ^ 48) cs.0;
        path_order = rises-order w path_column (count_of_clusters w) (2 ^ 48) cs.0;
        versions = λ i l. ltb-true _ _ (every-at (λ k. ltb (word w version_column k) half) (count_of_clusters w) cs.1 i l);
        endpoints = cs.2;
        key_below = rises-below w key_column (count_of_attributes w) (count_of_clusters w * half) bs.0;
        key_order = rises-order w key_column (count_of_attributes w) (count_of_clusters w * half) bs.0;
        traits = every-at (λ k. traits_right (word w traits_column k)) (count_of_attributes w) bs.1;
        ranks = every-at (rank_right w) (count_of_attributes w) (left _ _ h4);
        text_number = leb-true (count_of_texts w) text_limit (right (all_ranks w (count_of_attributes w)) _ h4);
      }

  pub from-index : ByIndex w → well_formed w ≡ true
  unfolding well_formed
  from-index x =
      both _ _
      (both _ _ (every-all (λ k. ltb (word w spare_column k) 1) spare_count (λ i l. lt-ltb (word w spare_column i) 1 (omega (arith, x.spare i l))))
      (both _ _ (le-leb _ _ x.cluster_number)
      (both _ _ (le-leb _ _ x.attribute_number)
      (both _ _
      (both _ _ (rises-all w path_column (count_of_clusters w) (2 ^ 48) x.path_below x.path_order)
      (both _ _ (every-all (λ k. ltb (word w version_column k) half) (count_of_clusters w) (λ i l. lt-ltb _ _ (x.versions i l)))
      (le-leb _ _ x.endpoints)))
      (both _ _ (rises-all w key_column (count_of_attributes w) (count_of_clusters w * half) x.key_below x.key_order)
      (every-all (λ k. traits_right (word w traits_column k)) (count_of_attributes w) x.traits))))))
      (both _ _ (every-all (rank_right w) (count_of_attributes w) x.ranks) (le-leb (count_of_texts w) text_limit x.text_number))
