-- The tests of one entry, and one step of the search for the highest privilege.
use mathlib.Core.Path.{◌≡◌}
use mathlib.Core.Bool.{Bool, true, false, cond, ◌||◌}
use Prim.Native.Nat.{ℕ, max, ◌≤◌, ◌<◌}
use native.Mathlib.Omega.{arith}
use lib.Dec.{eqb}
use Rattle.node_access.specs.declared.AccessEntry.{AccessEntry}
use Rattle.node_access.specs.Access.{covers_place, given_by}

given-less : (b : Bool) (p l : ℕ) → p ≤ l → l ≡ max (cond b p 0) l
given-less true p l h = omega arith
given-less false p l h = omega arith

module _ (e : AccessEntry) (s n c : ℕ) where
  pub other-subject : (e.any_subject || eqb e.subject s) ≡ false → false ≡ covers_place e s n c
  unfolding covers_place
  other-subject p = rw p

  pub other-endpoint : (e.any_subject || eqb e.subject s) ≡ true → (e.any_endpoint || eqb e.endpoint n) ≡ false → false ≡ covers_place e s n c
  unfolding covers_place
  other-endpoint p q = rw (p, q)

  pub by-cluster : (e.any_subject || eqb e.subject s) ≡ true → (e.any_endpoint || eqb e.endpoint n) ≡ true → (e.any_cluster || eqb e.cluster c) ≡ covers_place e s n c
  unfolding covers_place
  by-cluster p q = rw (p, q)

  -- an entry that gives no more than was found, one that gives more, and one for another place
  pub no_more : (l : ℕ) → e.privilege ≤ l → l ≡ max (given_by e s n c) l
  unfolding given_by
  no_more l h = given-less (covers_place e s n c) e.privilege l h

  pub gives_more : (l : ℕ) → covers_place e s n c ≡ true → l < e.privilege → e.privilege ≡ max (given_by e s n c) l
  unfolding given_by
  gives_more l t h = rw t (omega arith)

  pub elsewhere : (l : ℕ) → covers_place e s n c ≡ false → l ≡ max (given_by e s n c) l
  unfolding given_by
  elsewhere l t = rw t (omega arith)
