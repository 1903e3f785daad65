-- The schema of specimen S1 (RULES 8.1), computed: endpoint 1, cluster 6 at version 5, attribute 0, a boolean.
use Rattle.std.proofs.Common.{◌≡◌, ℕ, ◌+◌, ◌*◌, ◌^◌, true, false, List, [], ◌∷◌, ◌++◌, refl, Some, None}
use Rattle.base_bounds.specs.Bounds.{cluster_limit, attribute_limit}
use Rattle.node_schema.specs.Layout.{header_size}
use Rattle.node_schema.specs.Rows.{column, rows_from}
use Rattle.node_schema.specs.Check.{every, count, rises, changes, well_formed}
use Rattle.node_schema.specs.Rules.{path, path_at}
use Rattle.node_schema.specs.Search.{first}
use Rattle.node_schema.specs.Find.{find_path, has_endpoint}

-- read by View, written by Manage
abbrev s1 : List ℕ
s1 =
    column header_size (1 ∷ 1 ∷ 7 ∷ [])
    ++ (column cluster_limit ((2 ^ 32 + 6) ∷ [])
    ++ (column cluster_limit (5 ∷ []) ++ (column attribute_limit [] ++ column attribute_limit ((2 ^ 16 + 2 ^ 24 * 3) ∷ []))))

s1-well-formed : well_formed s1 ≡ true
unfolding well_formed rises every count changes rows_from
s1-well-formed = refl

s1-path : path_at s1 0 ≡ path 1 6 0
unfolding rows_from
s1-path = refl

s1-found : find_path s1 1 6 0 ≡ Some 0
unfolding first
s1-found = refl

s1-no-attribute : find_path s1 1 6 9 ≡ None
unfolding first
s1-no-attribute = refl

s1-no-endpoint : has_endpoint s1 2 ≡ false
unfolding first
s1-no-endpoint = refl
