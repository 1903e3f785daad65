-- Filters: which attributes of a read they skip (RULES 5.8).
use Rattle.std.specs.Prelude.{Bool, true, false, not, ◌&&◌, ◌||◌, List, [], ◌∷◌, ℕ, ◌+◌, ◌*◌, ◌^◌, eqb, ltb, get_or, set, Some, None, Option}
use Rattle.base_bounds.specs.Bounds.{cluster_limit, version_limit}
use Rattle.tlv_reader.specs.Octet.{pick}
use Rattle.node_schema.specs.Find.{find_cluster}
use Rattle.node_schema.specs.Rows.{cluster_row, count_of_clusters, filled, rows_from}
use Rattle.im_requests.specs.declared.VersionFilter.{VersionFilter}
use Rattle.im_requests.specs.Read.{version_filter_size}
use Rattle.server_selection.specs.Request.{filters_at}

-- the filter is for this cluster on this endpoint
unfoldable pub on : ℕ → ℕ → VersionFilter → Bool
on e c f = eqb f.endpoint e && eqb f.cluster c

-- some filter is for the cluster
unfoldable pub some : ℕ → ℕ → List VersionFilter → Bool
some e c [] = false
some e c (f ∷ fs) = on e c f || some e c fs

-- every filter for the cluster carries the version
unfoldable pub agree : ℕ → ℕ → ℕ → List VersionFilter → Bool
agree e c v [] = true
agree e c v (f ∷ fs) = (not (on e c f) || eqb f.version v) && agree e c v fs

unfoldable pub skips_by : List VersionFilter → ℕ → ℕ → ℕ → Bool
skips_by fs e c v = some e c fs && agree e c v fs

-- whether the filters skip each of the schema's clusters, at the versions that they have
abbrev pub skips_at : List ℕ → List VersionFilter → List ℕ → ℕ → Bool
skips_at w fs versions k = skips_by fs (cluster_row w k).endpoint (cluster_row w k).cluster (get_or versions k 0)

unfoldable pub skips_of : List ℕ → List VersionFilter → List ℕ → List Bool
skips_of w fs versions = filled false (skips_at w fs versions) cluster_limit (count_of_clusters w)

-- FILTERS JUDGED ONCE, at the request, to one word for each cluster: no filter is for it, or they disagree, or the one version that all of them carry
abbrev pub unfiltered : ℕ
unfiltered = version_limit

abbrev pub disagreeing : ℕ
disagreeing = version_limit + 1

-- a cluster's word with one filter more, which carries this version
unfoldable pub joined : ℕ → ℕ → ℕ
joined word version =
    pick (ltb version unfiltered) (pick (eqb word unfiltered) version (pick (eqb word version) word disagreeing)) disagreeing

-- a cluster's word after a list of filters
unfoldable pub word_after : ℕ → ℕ → ℕ → List VersionFilter → ℕ
word_after e c word [] = word
word_after e c word (f ∷ fs) = word_after e c (pick (on e c f) (joined word f.version) word) fs

abbrev pub filter_word : List ℕ → List VersionFilter → ℕ → ℕ
filter_word w fs k = pick (ltb k (count_of_clusters w)) (word_after (cluster_row w k).endpoint (cluster_row w k).cluster unfiltered fs) unfiltered

unfoldable pub filter_words : List ℕ → List VersionFilter → List ℕ
filter_words w fs = rows_from (filter_word w fs) cluster_limit 0

-- the filters of a request as words that are lent: number k, and the first n
abbrev pub version_filter_in : List ℕ → ℕ → VersionFilter
version_filter_in l k = record { endpoint = get_or l (k * version_filter_size) 0; cluster = get_or l (k * version_filter_size + 1) 0; version = get_or l (k * version_filter_size + 2) 0 }

abbrev pub version_filter_list : List ℕ → ℕ → List VersionFilter
version_filter_list l n = rows_from (version_filter_in l) n 0

-- ONE FILTER MORE, as it is stored in the request's words: at the row of its cluster, if the schema has that
unfoldable pub row_of : List ℕ → VersionFilter → Option ℕ
row_of w f = pick (ltb f.endpoint (2 ^ 16)) (pick (ltb f.cluster (2 ^ 32)) (find_cluster w f.endpoint f.cluster) None) None

abbrev pub joined_at : List ℕ → ℕ → Option ℕ → List ℕ
joined_at row version (Some k) = set row (filters_at + k) (joined (get_or row (filters_at + k) 0) version)
joined_at row version None = row

-- a part skips a cluster whose word is the version that the cluster has then
unfoldable pub skips_now : List ℕ → List ℕ → List ℕ → List Bool
skips_now w words versions = filled false (λ k. eqb (get_or words k 0) (get_or versions k 0)) cluster_limit (count_of_clusters w)
