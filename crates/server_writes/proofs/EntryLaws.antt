-- Which attribute an entry may write, test by test as the code asks.
use mathlib.Core.Path.{◌≡◌, refl}
use mathlib.Core.Bool.{Bool, true, false}
use mathlib.Core.List.{List}
use Prim.Native.Nat.{ℕ, ◌<◌}
use native.Mathlib.Omega.{arith}
use borrow.Author.Tests.{eq-eqb, ne_eqb}
use lib.ListN.{get_or}
use Rattle.tlv_reader.specs.Octet.{pick}
use Rattle.im_members.specs.Scalar.{ABSENT}
use Rattle.im_blocks.proofs.BlockLaws.{never}
use Rattle.im_requests.specs.declared.write.WriteEntry.{WriteEntry}
use Rattle.im_requests.specs.Write.{no_entry, write_in, write_read}
use Rattle.im_requests.proofs.WidthLaws.{kept-wide}
use Rattle.node_schema.specs.Rows.{attribute_row, count_of_attributes}
use Rattle.node_access.specs.declared.Grants.{Grants}
use Rattle.server_selection.specs.declared.locate.Located.{Located}
use Rattle.server_selection.specs.declared.locate.Located.TheVariants.{Here, Refused}
use Rattle.server_selection.specs.declared.reach.Use.TheVariants.{Write}
use Rattle.server_selection.specs.Status.{data_version_mismatch}
use Rattle.server_selection.specs.Reach.{and_then, reached}
use Rattle.server_selection.proofs.LocateLaws.{located_here}
use Rattle.server_selection.proofs.ReachLaws.{reached-here}
use Rattle.server_writes.specs.Entry.{version_fits, at_version, may_write, InWidth}

-- the version, with the cluster as the code has it
module _ (w versions : List ℕ) (given i : ℕ) where
  pub any-version : given ≡ ABSENT → at_version w versions given i ≡ Here i
  any-version v = rw (eq-eqb given ABSENT v)

  module _ {k : ℕ} (c : k ≡ (attribute_row w i).index_of_cluster) (some : given ≡ ABSENT → ⊥) where
    pub same_version : given ≡ get_or versions k 0 → at_version w versions given i ≡ Here i
    same_version v = rw (← c, ne_eqb given ABSENT some, eq-eqb given (get_or versions k 0) v)

    -- another version than the present one: 92
    pub other-version : (given ≡ get_or versions k 0 → ⊥) → at_version w versions given i ≡ Refused data_version_mismatch
    other-version v = rw (← c, ne_eqb given ABSENT some, ne_eqb given (get_or versions k 0) v)

-- what an entry may write is one of the schema's attributes
module _ (w : List ℕ) (g : Grants) (versions : List ℕ) where
  version-index : (given i j : ℕ) → at_version w versions given i ≡ Here j → i ≡ j
  version-index given i j h = go (version_fits given (get_or versions (attribute_row w i).index_of_cluster 0)) h
    where
      go : (b : Bool) → pick b (Here i) (Refused data_version_mismatch) ≡ Here j → i ≡ j
      go true q = cc
      go false q = never (cc)

  pub may-index : (x : WriteEntry) (j : ℕ) → may_write w g versions x ≡ Here j → j < count_of_attributes w
  unfolding may_write
  may-index x j h = go (reached Write w g x.endpoint x.cluster x.attribute) refl h
    where
      go : (l : Located) → reached Write w g x.endpoint x.cluster x.attribute ≡ l → and_then l (at_version w versions x.version) ≡ Here j → j < count_of_attributes w
      go (Here i) e q =
          omega (arith, version-index x.version i j q, (located_here w x.endpoint x.cluster x.attribute i (reached-here Write w g x.endpoint x.cluster x.attribute i e)).0)
      go (Refused code) e q = never (cc)

-- an entry of a write that was read has its widths
pub read-widths : (s : List ℕ) (i : ℕ) → InWidth (get_or (write_read (write_in s)).entries.kept i no_entry)
read-widths s i = let k = kept-wide s i in record { endpoint = k.endpoint; cluster = k.cluster; attribute = k.attribute }
