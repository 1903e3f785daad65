-- Which attribute may be read or written: test by test as the code asks, what is reached stands in the tables, and a refusal is an octet.
use Rattle.std.specs.Prelude.{Some, None, Option}
use mathlib.Core.Path.{◌≡◌, refl, ap, subst}
use mathlib.Core.Bool.{Bool, true, false}
use mathlib.Core.List.{List}
use Prim.Native.Nat.{ℕ, ◌<◌, ◌^◌}
use native.Mathlib.Omega.{arith}
use borrow.Author.Tests.{eq-eqb, ne_eqb, ltb-true}
use lib.Dec.{eqb, ltb}
use Rattle.base_bounds.specs.Bounds.{cluster_limit, attribute_limit}
use Rattle.tlv_reader.specs.Octet.{pick}
use Rattle.tlv_reader.proofs.Picks.{pick-elim}
use Rattle.im_blocks.proofs.BlockLaws.{never}
use Rattle.node_schema.specs.Rows.{attribute_row}
use Rattle.node_schema.specs.Find.{find_cluster, find_attribute, has_endpoint}
use Rattle.node_schema.proofs.BoolLaws.{left}
use Rattle.node_access.specs.declared.Grants.{Grants}
use Rattle.node_access.specs.Access.{is_granted}
use Rattle.server_selection.specs.declared.locate.Located.{Located}
use Rattle.server_selection.specs.declared.locate.Located.TheVariants.{Here, Refused}
use Rattle.server_selection.specs.declared.reach.Use.{Use}
use Rattle.server_selection.specs.declared.reach.Use.TheVariants.{Read, Write}
use Rattle.server_selection.specs.Status.{unsupported_endpoint, unsupported_access}
use Rattle.server_selection.specs.Locate.{attribute_found, cluster_found, located}
use Rattle.server_selection.specs.Reach.{needed, unsupported, allowed, and_then, reached, RowWithin}
use Rattle.server_selection.proofs.LocateLaws.{located_here}

-- ---- an attribute that is there, with the privilege and the cluster as the code has them

module _ (x : Use) (w : List ℕ) (g : Grants) (i : ℕ) {need : ℕ} (n : need ≡ needed x (attribute_row w i)) where
  -- it is not for this use: 8F or 88
  pub not-for : need ≡ 0 → allowed x w g i ≡ Refused (unsupported x)
  unfolding allowed
  not-for z = rw (← n, eq-eqb need 0 z)

  module _ (some : need ≡ 0 → ⊥) {k : ℕ} (c : k ≡ (attribute_row w i).index_of_cluster) where
    -- not granted: 7E
    pub not-granted : is_granted g k need ≡ false → allowed x w g i ≡ Refused unsupported_access
    unfolding allowed
    not-granted h = rw (← n, ← c, ne_eqb need 0 some, h)

    pub is-allowed : is_granted g k need ≡ true → allowed x w g i ≡ Here i
    unfolding allowed
    is-allowed h = rw (← n, ← c, ne_eqb need 0 some, h)

-- ---- what is allowed is that attribute, what is reached is what the path names, and both stand in the tables

module _ (x : Use) (w : List ℕ) (g : Grants) where
  module _ (i j : ℕ) where
    pub allowed-here : allowed x w g i ≡ Here j → (i ≡ j) × ((attribute_row w i).index_of_cluster < cluster_limit)
    unfolding allowed is_granted
    allowed-here h = go (eqb (needed x (attribute_row w i)) 0) (is_granted g (attribute_row w i).index_of_cluster (needed x (attribute_row w i))) refl h
      where
        go : (a b : Bool) → is_granted g (attribute_row w i).index_of_cluster (needed x (attribute_row w i)) ≡ b → pick a (Refused (unsupported x)) (pick b (Here i) (Refused unsupported_access)) ≡ Here j → (i ≡ j) × ((attribute_row w i).index_of_cluster < cluster_limit)
        go true b e q = never (cc)
        go false true e q = let k = (attribute_row w i).index_of_cluster in (cc, ltb-true k cluster_limit (left (ltb k cluster_limit) _ e))
        go false false e q = never (cc)

    pub allowed-within : i < attribute_limit → allowed x w g i ≡ Here j → RowWithin w j
    allowed-within l h = let r = allowed-here h in subst (RowWithin w) r.0 (record { attribute = l; cluster = r.1 })

  module _ (e c a j : ℕ) (h : reached x w g e c a ≡ Here j) where
    from-located : (located w e c a ≡ Here j) × (allowed x w g j ≡ Here j)
    unfolding reached
    from-located = go (located w e c a) h
      where
        go : (l : Located) → and_then l (allowed x w g) ≡ Here j → (l ≡ Here j) × (allowed x w g j ≡ Here j)
        go (Here i) q = let r = (allowed-here i j q).0 in (ap Here r, subst (λ (k : ℕ). allowed x w g k ≡ Here j) r q)
        go (Refused code) q = never (cc)

    pub reached-here : located w e c a ≡ Here j
    reached-here = from-located.0

    pub reached-within : RowWithin w j
    reached-within = allowed-within j j (omega (arith, (located_here w e c a j from-located.0).0)) from-located.1

-- ---- a refusal is an octet

abbrev pub Octet : Located → Type 0
Octet (Here i) = Unit {0}
Octet (Refused code) = code < 2 ^ 8

pub and-then-octet : (l : Located) (test : ℕ → Located) → Octet l → ((i : ℕ) → Octet (test i)) → Octet (and_then l test)
and-then-octet (Here i) test o f = f i
and-then-octet (Refused code) test o f = o

module _ (w : List ℕ) where
  attribute-octet : (f : (Option ℕ)) → Octet (attribute_found f)
  attribute-octet (Some i) = tt
  attribute-octet None = omega arith

  cluster-octet : (a : ℕ) (f : (Option ℕ)) → Octet (cluster_found w a f)
  cluster-octet a (Some k) = attribute-octet (find_attribute w k a)
  cluster-octet a None = omega arith

  located-octet : (e c a : ℕ) → Octet (located w e c a)
  unfolding located
  located-octet e c a =
      pick-elim Octet (has_endpoint w e) (cluster_found w a (find_cluster w e c)) (Refused unsupported_endpoint) (λ _. cluster-octet a (find_cluster w e c)) (λ _. omega arith)

  unsupported-octet : (x : Use) → unsupported x < 2 ^ 8
  unsupported-octet Read = omega arith
  unsupported-octet Write = omega arith

  pub allowed-octet : (x : Use) (g : Grants) (i : ℕ) → Octet (allowed x w g i)
  unfolding allowed
  allowed-octet x g i =
      pick-elim Octet (eqb (needed x (attribute_row w i)) 0) _ _ (λ _. unsupported-octet x)
      (λ _. pick-elim Octet (is_granted g (attribute_row w i).index_of_cluster (needed x (attribute_row w i))) _ _ (λ _. tt) (λ _. omega arith))

  pub reached-octet : (x : Use) (g : Grants) (e c a : ℕ) → Octet (reached x w g e c a)
  unfolding reached
  reached-octet x g e c a = and-then-octet (located w e c a) (allowed x w g) (located-octet e c a) (allowed-octet x g)
