-- What the lines of a subject and of a cluster make of the words that are set up (docs/SCRIPTS.md).
use Rattle.std.specs.Prelude.{List, [], ◌∷◌, Bool, ℕ, ◌+◌, ◌*◌, ◌-◌, ◌^◌, ltb, get_or, set}
use Rattle.base_bounds.specs.Bounds.{cluster_limit}
use Rattle.tlv_reader.specs.Octet.{pick}
use Rattle.node_schema.specs.Layout.{cluster_count_word, subject_word, path_column, version_column}
use Rattle.script_lines.specs.declared.Scan.{Scan}
use Rattle.script_lines.specs.declared.number.Number.{Number as NumberRead}
use Rattle.script_lines.specs.declared.path.ClusterWords.{ClusterWords}
use Rattle.script_lines.specs.Words.{is_done, is_one_of}
use Rattle.script_lines.specs.Numbers.{number_at}
use Rattle.script_lines.specs.Paths.{place_at, id_max}

-- subject, cluster, attribute
abbrev pub subject_name : List ℕ
subject_name = 115 ∷ 117 ∷ 98 ∷ 106 ∷ 101 ∷ 99 ∷ 116 ∷ []

abbrev pub cluster_name : List ℕ
cluster_name = 99 ∷ 108 ∷ 117 ∷ 115 ∷ 116 ∷ 101 ∷ 114 ∷ []

abbrev pub attribute_name : List ℕ
attribute_name = 97 ∷ 116 ∷ 116 ∷ 114 ∷ 105 ∷ 98 ∷ 117 ∷ 116 ∷ 101 ∷ []

-- whether a line gives the schema
abbrev pub is_setup : List ℕ → Bool
is_setup name = is_one_of name (subject_name ∷ cluster_name ∷ attribute_name ∷ [])

-- a count up by one, as far as the limit
abbrev pub count_up : ℕ → ℕ → ℕ
count_up n limit = pick (ltb n limit) (n + 1) n

-- the line of a subject: whether it can be read, and the words after it
unfoldable pub subject_at : List ℕ → Scan → NumberRead
subject_at line s = number_at line s (2 ^ 64 - 1)

abbrev pub subject_set : List ℕ → NumberRead → List ℕ
subject_set setup n = pick (is_done n.next) (set setup subject_word n.value) setup

-- a row for a cluster, counted; one past the limit is counted and not kept
abbrev pub cluster_counted : List ℕ → ℕ → List ℕ
cluster_counted setup n = set setup cluster_count_word (count_up n (cluster_limit + 1))

abbrev pub cluster_row : List ℕ → ℕ → ℕ → ℕ → List ℕ
cluster_row setup n path version =
    pick (ltb n cluster_limit)
    (set (set (cluster_counted setup n) (path_column + n) path) (version_column + n) version)
    (cluster_counted setup n)

unfoldable pub cluster_added : List ℕ → ℕ → ℕ → List ℕ
cluster_added setup path version = cluster_row setup (get_or setup cluster_count_word 0) path version

-- the line of a cluster, likewise: its path and its version
abbrev pub cluster_set : List ℕ → ClusterWords → NumberRead → List ℕ
cluster_set setup p v = pick (is_done v.next) (cluster_added setup (p.endpoint * 2 ^ 32 + p.cluster) v.value) setup

abbrev pub version_at : List ℕ → ClusterWords → NumberRead
version_at line p = number_at line p.next id_max

unfoldable pub cluster_read : List ℕ → Scan → Bool
cluster_read line s = is_done (version_at line (place_at line s)).next

unfoldable pub cluster_line : List ℕ → Scan → List ℕ → List ℕ
cluster_line line s setup = cluster_set setup (place_at line s) (version_at line (place_at line s))
