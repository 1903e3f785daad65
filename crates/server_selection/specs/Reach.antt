-- Which attribute may be read or written: one ordered chain for both uses (RULES 5.6, 5.14): 7F, C3, 86, then 8F not readable
-- or 88 not writable, then 7E privilege. A further test of an attribute that is there is one more link.
use Rattle.std.specs.Prelude.{List, ℕ, ◌<◌, eqb}
use Rattle.base_bounds.specs.Bounds.{cluster_limit, attribute_limit}
use Rattle.tlv_reader.specs.Octet.{pick}
use Rattle.node_schema.specs.Rows.{AttributeRow, attribute_row}
use Rattle.node_access.specs.declared.Grants.{Grants}
use Rattle.node_access.specs.Access.{is_granted}
use Rattle.server_selection.specs.Status.{unsupported_read, unsupported_write, unsupported_access}
use Rattle.server_selection.specs.Locate.{located}
use Rattle.server_selection.specs.declared.locate.Located.{Located}
use Rattle.server_selection.specs.declared.locate.Located.TheVariants.{Here, Refused}
use Rattle.server_selection.specs.declared.reach.Use.{Use}
use Rattle.server_selection.specs.declared.reach.Use.TheVariants.{Read, Write}

-- the privilege that a use needs of an attribute, 0 where the attribute is not for it
abbrev pub needed : Use → AttributeRow → ℕ
needed Read a = a.read
needed Write a = a.write

-- and the status where it is not: 8F not readable, 88 not writable
abbrev pub unsupported : Use → ℕ
unsupported Read = unsupported_read
unsupported Write = unsupported_write

-- attribute i, which is there: 8F or 88, then 7E
unfoldable pub allowed : Use → List ℕ → Grants → ℕ → Located
allowed x w g i =
    pick (eqb (needed x (attribute_row w i)) 0) (Refused (unsupported x))
    (pick (is_granted g (attribute_row w i).index_of_cluster (needed x (attribute_row w i))) (Here i)
    (Refused unsupported_access))

-- the next link of a chain: a test of the attribute found; a refusal stands
abbrev pub and_then : Located → (ℕ → Located) → Located
and_then (Here i) test = test i
and_then (Refused code) test = Refused code

-- THE CHAIN of a concrete path: 7F, C3, 86, then 8F or 88, then 7E
unfoldable pub reached : Use → List ℕ → Grants → ℕ → ℕ → ℕ → Located
reached x w g e c a = and_then (located w e c a) (allowed x w g)

-- an attribute whose row and whose cluster's row the tables have
pub record RowWithin (w : List ℕ) (i : ℕ) : Type 0 where
  pub attribute : i < attribute_limit
  pub cluster : (attribute_row w i).index_of_cluster < cluster_limit
