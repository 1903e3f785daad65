-- What a cache is to hold after a report that it took.
use Rattle.std.specs.Prelude.{Bool, ◌&&◌, List, [], ◌∷◌, ℕ, eqb, Some, Option}
use Rattle.tlv_reader.specs.Octet.{pick}
use Rattle.tlv_reader.specs.Value.{Datum}
use Rattle.cache_entries.specs.Entries.{CacheEntry}
use Rattle.im_writer.specs.Block.{Block, value, status}

-- an entry with this version and this value
abbrev pub holding : ℕ → Datum → Option CacheEntry
holding version d = Some (record { version = version; value = d })

abbrev pub same_path : ℕ → ℕ → ℕ → ℕ → ℕ → ℕ → Bool
same_path endpoint cluster attribute e c a = eqb endpoint e && (eqb cluster c && eqb attribute a)

-- THE ENTRY after blocks: of a path, what the last block of that path says, else what was held before
unfoldable pub after : ℕ → ℕ → ℕ → Option CacheEntry → List Block → Option CacheEntry
after e c a o [] = o
after e c a o (value version endpoint cluster attribute d ∷ l) = after e c a (pick (same_path endpoint cluster attribute e c a) (holding version d) o) l
after e c a o (status endpoint cluster attribute code ∷ l) = after e c a o l
