-- Paths of a line: endpoint, cluster and attribute, each a decimal number of its width.
use Rattle.std.specs.Prelude.{List, ℕ}
use Rattle.script_lines.specs.declared.Scan.{Scan}
use Rattle.script_lines.specs.declared.number.Number.{Number as NumberRead}
use Rattle.script_lines.specs.declared.path.ClusterWords.{ClusterWords}
use Rattle.script_lines.specs.declared.path.PathWords.{PathWords}
use Rattle.script_lines.specs.Numbers.{number_at}

abbrev pub endpoint_max : ℕ
endpoint_max = 65535

-- the highest number of a cluster, an attribute and a version
abbrev pub id_max : ℕ
id_max = 4294967295

abbrev pub place_of : NumberRead → NumberRead → ClusterWords
place_of e c = record { endpoint = e.value; cluster = c.value; next = c.next }

-- a cluster's path
unfoldable pub place_at : List ℕ → Scan → ClusterWords
place_at line s = let e = number_at line s endpoint_max in place_of e (number_at line e.next id_max)

abbrev pub path_of : ClusterWords → NumberRead → PathWords
path_of p a = record { endpoint = p.endpoint; cluster = p.cluster; attribute = a.value; next = a.next }

-- an attribute's path
unfoldable pub path_at : List ℕ → Scan → PathWords
path_at line s = let p = place_at line s in path_of p (number_at line p.next id_max)
