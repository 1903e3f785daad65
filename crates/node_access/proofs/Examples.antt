-- An access list, computed: subject 7 manages cluster 6 of endpoint 1, and anybody views all of endpoint 1.
use mathlib.Core.Path.{◌≡◌, refl}
use mathlib.Core.Bool.{Bool, true, false}
use mathlib.Core.List.{List, [], ◌∷◌, ◌++◌, map}
use Prim.Native.Nat.{ℕ, ◌+◌, ◌^◌}
use lib.ListN.{take, replicate}
use Rattle.node_schema.specs.Layout.{header_size}
use Rattle.node_schema.specs.Rows.{column, rows_from}
use Rattle.node_access.specs.declared.AccessEntry.{AccessEntry}
use Rattle.node_access.specs.Access.{covers_place, covers_e, granted, given_by, level_of, grants_of, privilege_ok, privileges_ok, table_ok}
use Rattle.node_access.specs.Table.{table_right, searched}

manage7 : AccessEntry
manage7 =
    record {
      privilege = 3;
      any_subject = false;
      subject = 7;
      any_endpoint = false;
      endpoint = 1;
      any_cluster = false;
      cluster = 6;
    }

view1 : AccessEntry
view1 =
    record {
      privilege = 1;
      any_subject = true;
      subject = 0;
      any_endpoint = false;
      endpoint = 1;
      any_cluster = true;
      cluster = 0;
    }

list : List AccessEntry
list = manage7 ∷ (view1 ∷ [])

asked : ℕ → ℕ → ℕ → List Bool
asked s n c = map (granted list s n c) (1 ∷ (2 ∷ (3 ∷ (4 ∷ []))))

-- Manage includes Operate and View; another subject, another cluster and another endpoint
answers : (asked 7 1 6 ++ (asked 8 1 6 ++ (asked 7 1 5 ++ asked 7 2 6))) ≡ (true ∷ (true ∷ (true ∷ (false ∷ []))) ++ (true ∷ (false ∷ (false ∷ (false ∷ []))) ++ (true ∷ (false ∷ (false ∷ (false ∷ []))) ++ (false ∷ (false ∷ (false ∷ (false ∷ [])))))))
unfolding manage7 view1 list asked granted covers_e covers_place
answers = refl

-- a schema of two clusters, 6 and 8 on endpoint 1
words : List ℕ
words = column header_size (2 ∷ 0 ∷ 7 ∷ []) ++ ((2 ^ 32 + 6) ∷ (2 ^ 32 + 8) ∷ [])

levels : take 4 (grants_of list 7 words).level ≡ 3 ∷ (1 ∷ (0 ∷ (0 ∷ [])))
unfolding manage7 view1 list words grants_of level_of given_by covers_place rows_from
levels = refl

list-ok : table_ok list ≡ true
unfolding manage7 view1 list table_ok privileges_ok privilege_ok
list-ok = refl

too_long : table_ok (replicate 17 manage7) ≡ false
unfolding manage7 table_ok privileges_ok privilege_ok
too_long = refl

-- of the list's first entry alone subject 8 has nothing, of both it views
of_one : take 2 (searched 1 list 8 words).grants.level ≡ 0 ∷ (0 ∷ [])
unfolding manage7 view1 list words grants_of level_of given_by covers_place rows_from
of_one = refl

of_two : take 2 (searched 2 list 8 words).grants.level ≡ 1 ∷ (1 ∷ [])
unfolding manage7 view1 list words grants_of level_of given_by covers_place rows_from
of_two = refl

-- a count above the limit, of a table that has no more than the limit
counted-17 : table_right 17 (replicate 16 manage7) ≡ false
unfolding table_right
counted-17 = refl
