-- The server and the cache of the run: a schema of five texts in two clusters, so that a part of a report has room for four of them.
use Rattle.std.specs.Prelude.{true, false, List, [], ◌∷◌, ◌++◌, ℕ, ◌+◌, ◌*◌, ◌^◌, replicate}
use Rattle.base_bounds.specs.Bounds.{cluster_limit, attribute_limit}
use Rattle.node_schema.specs.Layout.{header_size, half, text_limit, text_size}
use Rattle.node_schema.specs.Rows.{column}
use Rattle.node_access.specs.declared.AccessEntry.{AccessEntry}
use Rattle.cache_entries.specs.Limits.{page_size}
use Rattle.proof_promises.specs.World.{Plan}

-- attribute `id` of the cluster at a place of the list of clusters
abbrev pub key : ℕ → ℕ → ℕ
key place id = place * half + id

-- a text, readable with View, not writable
abbrev traits : ℕ
traits = 4 + 1 * 2 ^ 16

-- the factory text of a rank, one after the other
abbrev factory : ℕ → ℕ
factory rank = text_size * rank * half + text_size

-- the word of a cluster on endpoint 1
abbrev pub path : ℕ → ℕ
path cluster = 1 * half + cluster

-- subject 1. Endpoint 1 has clusters 6 and 8, at versions 5 and FFFFFFFF, with two and with three texts of 200 bytes
unfoldable pub words : List ℕ
words =
    column header_size (2 ∷ 5 ∷ 1 ∷ [])
    ++ (column cluster_limit (path 6 ∷ path 8 ∷ [])
    ++ (column cluster_limit (5 ∷ 0xFFFF_FFFF ∷ [])
    ++ (column attribute_limit (key 0 0 ∷ key 0 1 ∷ key 1 0 ∷ key 1 1 ∷ key 1 2 ∷ [])
    ++ (column attribute_limit (replicate 5 traits)
    ++ (column attribute_limit []
    ++ (column attribute_limit []
    ++ (column attribute_limit (0 ∷ 1 ∷ 2 ∷ 3 ∷ 4 ∷ [])
    ++ column text_limit (factory 0 ∷ factory 1 ∷ factory 2 ∷ factory 3 ∷ factory 4 ∷ []))))))))

-- 200 times the same byte
abbrev pub text : ℕ → List ℕ
text byte = replicate text_size byte

-- the factory texts are of A, of B, .. of E
unfoldable pub defaults : List ℕ
defaults = text 0x41 ++ (text 0x42 ++ (text 0x43 ++ (text 0x44 ++ text 0x45)))

-- a page for the edits of five texts
unfoldable pub edits : List ℕ
edits = replicate (5 * text_size) 0

-- the cache's page of texts
unfoldable pub page : List ℕ
page = replicate page_size 0

-- subject 1 may view everything
abbrev viewer : AccessEntry
viewer = record { privilege = 1; any_subject = false; subject = 1; any_endpoint = true; endpoint = 0; any_cluster = true; cluster = 0 }

unfoldable pub access : List AccessEntry
access = viewer ∷ []

unfoldable pub plan : Plan
plan = record { words = words; defaults = defaults; table = access }
