-- Finding the rows of a path: the first row that has it, exactly.
use Rattle.std.specs.Prelude.{ℕ, Bool, ◌&&◌, List, ◌==◌, nat_eq, nat_lt, Some, None, Option}
use Rattle.base_bounds.specs.Bounds.{cluster_limit}
use Rattle.node_schema.specs.Rows.{word, ClusterRow, AttributeRow, cluster_row, attribute_row, count_of_clusters, count_of_attributes}
use Rattle.node_schema.specs.Search.{first, pick, is_found}

-- the row is that of this cluster on this endpoint
abbrev pub cluster_is : ℕ → ℕ → ClusterRow → Bool
cluster_is e c r = r.endpoint == e && r.cluster == c

-- the row is that of this attribute of the cluster whose row is at k
abbrev pub attribute_is : ℕ → ℕ → AttributeRow → Bool
attribute_is k a r = r.index_of_cluster == k && r.id == a

abbrev pub find_cluster : List ℕ → ℕ → ℕ → Option ℕ
find_cluster w e c = first (λ i. cluster_is e c (cluster_row w i)) (count_of_clusters w) 0

-- no cluster's row is at the limit or above
abbrev pub find_attribute : List ℕ → ℕ → ℕ → Option ℕ
find_attribute w k a = pick (nat_lt k cluster_limit) (first (λ i. attribute_is k a (attribute_row w i)) (count_of_attributes w) 0) None

-- the attribute row of a whole path: its cluster's row first, then the attribute of that row
abbrev pub in_cluster : List ℕ → ℕ → Option ℕ → Option ℕ
in_cluster w a (Some k) = find_attribute w k a
in_cluster w a None = None

abbrev pub find_path : List ℕ → ℕ → ℕ → ℕ → Option ℕ
find_path w e c a = in_cluster w a (find_cluster w e c)

-- an endpoint is there exactly if some cluster is on it (DECISIONS 3.1)
abbrev pub has_endpoint : List ℕ → ℕ → Bool
has_endpoint w e = is_found (first (λ i. nat_eq (cluster_row w i).endpoint e) (count_of_clusters w) 0)

-- the search that the code makes: a path or a key is one word
abbrev pub find_word : List ℕ → ℕ → ℕ → ℕ → Option ℕ
find_word w from n x = first (λ i. nat_eq (word w from i) x) n 0
