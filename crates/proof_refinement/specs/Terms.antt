-- A server's schema and what it grants, in the terms of the protocol: its paths, those that the cache may read, its first values, filters.
use Rattle.std.specs.Prelude.{◌≡◌, Bool, not, ◌&&◌, List, [], ◌∷◌, map, ℕ, zero, suc, ◌+◌, ◌<◌, eqb, get_or, Some, None, Option}
use Rattle.tlv_reader.specs.Octet.{pick}
use Rattle.tlv_reader.specs.Value.{Datum}
use Rattle.node_schema.specs.Rows.{attribute_row, count_of_clusters, count_of_attributes}
use Rattle.node_schema.specs.Find.{find_cluster}
use Rattle.node_access.specs.declared.Grants.{Grants}
use Rattle.node_access.specs.Access.{is_granted}
use Rattle.im_requests.specs.declared.VersionFilter.{VersionFilter}
use Rattle.server_values.specs.declared.Values.{Values}
use Rattle.server_values.specs.Values.{datum_at}
use Rattle.server_values.specs.Fresh.{fresh_values}
use Rattle.proof_protocol.specs.Model.{ConcretePath, Filter, Node, Cluster}

-- attribute i: the row of its cluster, and its own
abbrev pub place_at : List ℕ → ℕ → ConcretePath
place_at w i = record { cluster = (attribute_row w i).index_of_cluster; attribute = i }

-- the cache may read attribute i
unfoldable pub may_read : List ℕ → Grants → ℕ → Bool
may_read w g i =
    not (eqb (attribute_row w i).read 0) && is_granted g (attribute_row w i).index_of_cluster (attribute_row w i).read

-- those that it may read of the n attributes from i on, in plan order
unfoldable pub readable_from : List ℕ → Grants → ℕ → ℕ → List ConcretePath
readable_from w g zero i = []
readable_from w g (suc n) i = pick (may_read w g i) (place_at w i ∷ readable_from w g n (i + 1)) (readable_from w g n (i + 1))

abbrev pub node_of : List ℕ → List ℕ → List ℕ → Grants → Node Datum
node_of w defaults edits g =
    record {
      first_version = λ k. get_or (fresh_values w).versions k 0;
      first_value = λ k i. datum_at w defaults edits (fresh_values w) i;
      readable = readable_from w g (count_of_attributes w) 0;
    }

-- the row of a cluster; past all rows where there is none
abbrev pub row_found : ℕ → Option ℕ → ℕ
row_found n (Some k) = k
row_found n None = n

unfoldable pub cluster_number : List ℕ → ℕ → ℕ → ℕ
cluster_number w endpoint cluster = row_found (count_of_clusters w) (find_cluster w endpoint cluster)

abbrev pub filter_as : List ℕ → VersionFilter → Filter
filter_as w f = record { cluster = cluster_number w f.endpoint f.cluster; version = f.version }

abbrev pub filters_as : List ℕ → List VersionFilter → List Filter
filters_as w fs = map (filter_as w) fs

-- what a server holds, as clusters of the protocol: only those that are there count
pub record ClustersAs (w defaults edits : List ℕ) (v : Values) (clusters : ℕ → Cluster Datum) : Type 0 where
  pub versions : (k : ℕ) → k < count_of_clusters w → (clusters k).version ≡ get_or v.versions k 0
  pub values : (i : ℕ) → i < count_of_attributes w → (clusters (attribute_row w i).index_of_cluster).values i ≡ datum_at w defaults edits v i
