-- What an access entry covers and what a list of entries grants (RULES 2.12 to 2.15), for a list of any form.
use Rattle.std.specs.Prelude.{ℕ, ◌-◌, max, Bool, true, false, cond, ◌&&◌, ◌||◌, ◌≡◌, eqb, leb, ltb, length, get_or, replicate}
use mathlib.Core.List.{List, [], ◌∷◌, ◌++◌, map, Memᴰ}
use Rattle.base_bounds.specs.Bounds.{cluster_limit, entry_limit}
use Rattle.node_schema.specs.Layout.{administer}
use Rattle.node_schema.specs.Rows.{ClusterRow, count_of_clusters, clusters}
use Rattle.node_access.specs.declared.AccessEntry.{AccessEntry}
use Rattle.node_access.specs.declared.Grants.{Grants}

-- the four privileges (RULES 2.12) are 1 to 4, View the lowest
abbrev pub view : ℕ
view = 1

unfoldable pub privilege_ok : ℕ → Bool
privilege_ok p = leb view p && leb p administer

-- RULES 2.13: whether an entry gives its privilege to this subject, on this endpoint and cluster
unfoldable pub covers_place : AccessEntry → ℕ → ℕ → ℕ → Bool
covers_place e s n c =
    (e.any_subject || eqb e.subject s) && ((e.any_endpoint || eqb e.endpoint n) && (e.any_cluster || eqb e.cluster c))

-- RULES 2.15: an entry covers these four if its own privilege includes the one asked for
unfoldable pub covers_e : AccessEntry → ℕ → ℕ → ℕ → ℕ → Bool
covers_e e s n c p = leb p e.privilege && covers_place e s n c

-- RULES 2.15
unfoldable pub granted : List AccessEntry → ℕ → ℕ → ℕ → ℕ → Bool
granted [] s n c p = false
granted (e ∷ es) s n c p = covers_e e s n c p || granted es s n c p

-- the same as RULES 2.15 says it: an entry of the list, and that it covers
abbrev pub SomeCovers : List AccessEntry → ℕ → ℕ → ℕ → ℕ → Type 0
SomeCovers es s n c p = (e : AccessEntry) × Memᴰ e es × (covers_e e s n c p ≡ true)

-- what one entry gives at a place: its privilege, or 0 where it does not cover the place
unfoldable pub given_by : AccessEntry → ℕ → ℕ → ℕ → ℕ
given_by e s n c = cond (covers_place e s n c) e.privilege 0

-- the highest privilege of an entry that covers the place, 0 where there is none
unfoldable pub level_of : List AccessEntry → ℕ → ℕ → ℕ → ℕ
level_of [] s n c = 0
level_of (e ∷ es) s n c = max (given_by e s n c) (level_of es s n c)

-- the highest privilege at each of the schema's clusters, in the rows' order; 0 at the rows not in use
unfoldable pub grants_of : List AccessEntry → ℕ → List ℕ → Grants
grants_of es s w =
    record { level = map (λ (r : ClusterRow). level_of es s r.endpoint r.cluster) (clusters w) ++ replicate (cluster_limit - count_of_clusters w) 0 }

-- whether a privilege is granted at the cluster whose row is at i
unfoldable pub is_granted : Grants → ℕ → ℕ → Bool
is_granted g i p = ltb i cluster_limit && leb p (get_or g.level i 0)

-- refusal 2 (RULES 6.1) of the table: more entries than the limit, or a privilege that there is none of
unfoldable pub privileges_ok : List AccessEntry → Bool
privileges_ok [] = true
privileges_ok (e ∷ es) = privilege_ok e.privilege && privileges_ok es

unfoldable pub table_ok : List AccessEntry → Bool
table_ok es = leb (length es) entry_limit && privileges_ok es
