-- The request that an exchange keeps while it is answered, as words that are lent: its paths, and for each of the schema's clusters what its filters say.
use Rattle.std.specs.Prelude.{List, [], ◌∷◌, ℕ, ◌+◌, ◌*◌, get_or, take, drop}
use Rattle.base_bounds.specs.Bounds.{cluster_limit, path_limit}
use Rattle.node_schema.specs.Rows.{rows_from}
use Rattle.im_requests.specs.declared.Target.{Target}
use Rattle.im_requests.specs.Read.{target_size}
use Rattle.server_selection.specs.declared.asked.Asked.{Asked}
use Rattle.server_selection.specs.Asked.{asked_for}

-- a path is three words: endpoint, cluster, attribute
abbrev pub path_size : ℕ
path_size = target_size

-- where the filters start: behind the paths
abbrev pub filters_at : ℕ
filters_at = path_limit * path_size

-- and how the exchange stands: behind them
abbrev pub standing_at : ℕ
standing_at = filters_at + cluster_limit

abbrev pub row_length : ℕ
row_length = standing_at + 10

abbrev pub paths_in : List ℕ → List ℕ
paths_in l = take filters_at l

abbrev pub filters_in : List ℕ → List ℕ
filters_in l = take cluster_limit (drop filters_at l)

-- path number k
abbrev pub asked_at : List ℕ → ℕ → Asked
asked_at l k =
    asked_for (record { endpoint = get_or l (k * path_size) 0; cluster = get_or l (k * path_size + 1) 0; attribute = get_or l (k * path_size + 2) 0 })

-- the first n paths
abbrev pub asked_paths : List ℕ → ℕ → List Asked
asked_paths l n = rows_from (asked_at l) n 0

-- the words of paths
unfoldable pub paths_words : List Target → List ℕ
paths_words [] = []
paths_words (t ∷ ts) = t.endpoint ∷ t.cluster ∷ t.attribute ∷ paths_words ts
