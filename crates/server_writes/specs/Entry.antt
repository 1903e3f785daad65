-- The entries of a write action, each with the first that applies of 7F, C3, 86, 88, 7E, 92, 8D, 87 and 00 (RULES 5.13 to 5.15).
use Rattle.std.specs.Prelude.{Bool, true, List, [], ◌∷◌, ℕ, ◌<◌, ◌^◌, eqb, get_or}
use Rattle.base_bounds.specs.Bounds.{write_limit}
use Rattle.tlv_reader.specs.Octet.{pick}
use Rattle.tlv_reader.specs.Value.{value_in}
use Rattle.im_members.specs.Scalar.{ABSENT}
use Rattle.im_requests.specs.Message.{first_of}
use Rattle.im_requests.specs.declared.write.WriteEntry.{WriteEntry}
use Rattle.im_requests.specs.Write.{entry_in}
use Rattle.node_schema.specs.Rows.{rows_from, attribute_row}
use Rattle.node_access.specs.declared.Grants.{Grants}
use Rattle.server_selection.specs.declared.locate.Located.{Located}
use Rattle.server_selection.specs.declared.locate.Located.TheVariants.{Here, Refused}
use Rattle.server_selection.specs.declared.reach.Use.TheVariants.{Write}
use Rattle.server_selection.specs.Status.{data_version_mismatch}
use Rattle.server_selection.specs.Reach.{and_then, reached}
use Rattle.server_writes.specs.Offer.{HeldValues, StoreOutcome, by_place}

-- a version that was not given fits; one that was must be the present one
abbrev pub version_fits : ℕ → ℕ → Bool
version_fits given present = pick (eqb given ABSENT) true (eqb given present)

-- 92: another version than the present one (RULES 5.14)
abbrev pub at_version : List ℕ → List ℕ → ℕ → ℕ → Located
at_version w versions given i = pick (version_fits given (get_or versions (attribute_row w i).index_of_cluster 0)) (Here i) (Refused data_version_mismatch)

-- which attribute an entry may write: the whole chain of writes, then the version
unfoldable pub may_write : List ℕ → Grants → List ℕ → WriteEntry → Located
may_write w g versions x = and_then (reached Write w g x.endpoint x.cluster x.attribute) (at_version w versions x.version)

unfoldable pub entry_written : List ℕ → Grants → List ℕ → List ℕ → HeldValues → WriteEntry → StoreOutcome
entry_written w g defaults s h x = by_place w defaults h s (value_in s x.place) (may_write w g h.values.versions x)

-- THE WRITE ACTION: what is held after all entries, and the status that each gets
unfoldable pub held_after : List ℕ → Grants → List ℕ → List ℕ → HeldValues → List WriteEntry → HeldValues
held_after w g defaults s h [] = h
held_after w g defaults s h (x ∷ xs) = held_after w g defaults s (entry_written w g defaults s h x).held xs

unfoldable pub codes_of : List ℕ → Grants → List ℕ → List ℕ → HeldValues → List WriteEntry → List ℕ
codes_of w g defaults s h [] = []
codes_of w g defaults s h (x ∷ xs) = (entry_written w g defaults s h x).code ∷ codes_of w g defaults s (entry_written w g defaults s h x).held xs

-- the statuses as the code keeps them, in an array of 16
abbrev pub codes_in : List ℕ → List ℕ
codes_in l = first_of write_limit 0 l

-- the first n entries, as they are lent in words
abbrev pub entries_in : List ℕ → ℕ → List WriteEntry
entries_in l n = rows_from (entry_in l) n 0

-- a path whose parts have their widths
pub record InWidth (x : WriteEntry) : Type 0 where
  pub endpoint : x.endpoint < 2 ^ 16
  pub cluster : x.cluster < 2 ^ 32
  pub attribute : x.attribute < 2 ^ 32
