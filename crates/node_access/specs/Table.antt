-- The access list as a table of which the first n entries are in use: what a search of it answers, and one step of that search.
use Rattle.std.specs.Prelude.{ℕ, max, Bool, ◌&&◌, List, ◌++◌, leb, get_or, take, drop, replicate}
use Rattle.base_bounds.specs.Bounds.{cluster_limit, entry_limit}
use Rattle.node_schema.specs.Rows.{cluster_row, count_of_clusters, rows_from}
use Rattle.node_access.specs.Access.{privilege_ok, given_by, grants_of, table_ok}
use Rattle.node_access.specs.declared.AccessEntry.{AccessEntry}
use Rattle.node_access.specs.declared.Grants.{Grants}
use Rattle.node_access.specs.declared.table.Access.{Access}

-- a count above the limit breaks the rules, whatever the table holds; else the entries in use are judged
unfoldable pub table_right : ℕ → List AccessEntry → Bool
table_right n es = leb n entry_limit && table_ok (take n es)

-- what a search answers for a subject
abbrev pub searched : ℕ → List AccessEntry → ℕ → List ℕ → Access
searched n es s w = record { right = table_right n es; grants = grants_of (take n es) s w }

-- before any entry is looked at
abbrev pub beginning : ℕ → Access
beginning n = record { right = leb n entry_limit; grants = record { level = replicate cluster_limit 0 } }

-- one entry more: at each of the schema's clusters the higher of what was granted and what it gives there
abbrev pub level_with : Grants → AccessEntry → ℕ → List ℕ → ℕ → ℕ
level_with g e s w i = max (given_by e s (cluster_row w i).endpoint (cluster_row w i).cluster) (get_or g.level i 0)

abbrev pub grants_with : Grants → AccessEntry → ℕ → List ℕ → Grants
grants_with g e s w = record { level = rows_from (level_with g e s w) (count_of_clusters w) 0 ++ drop (count_of_clusters w) g.level }

abbrev pub with_entry : Access → AccessEntry → ℕ → List ℕ → Access
with_entry a e s w = record { right = privilege_ok e.privilege && a.right; grants = grants_with a.grants e s w }
