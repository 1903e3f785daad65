-- A value that the cache can keep or send (refusals 6, 7 and 10, RULES 6.1 and 6.3): null or of the five kinds, a text UTF-8 and of at most 200 bytes.
use Rattle.std.specs.Prelude.{Bool, true, false, ◌&&◌, List, ℕ, ◌-◌, ltb, leb, length, take, drop}
use Rattle.tlv_reader.specs.declared.Value.{Value}
use Rattle.tlv_reader.specs.declared.Value.TheVariants as value
use Rattle.base_utf8.specs.WellFormed.{well_formed}
use Rattle.cache_entries.specs.Limits.{text_size}

-- a text of n bytes from a on lies in the message and is UTF-8
unfoldable pub inside_usable : List ℕ → ℕ → ℕ → Bool
inside_usable s a n = leb n (length s) && (leb a (length s - n) && well_formed (take n (drop a s)))

-- null or of the five kinds
unfoldable pub usable_in : List ℕ → Value → Bool
usable_in s value.Null = true
usable_in s (value.Boolean b) = true
usable_in s (value.Unsigned n) = true
usable_in s (value.Signed z) = true
usable_in s (value.Float n) = true
usable_in s (value.Text a n) = inside_usable s a n
usable_in s value.Other = false

-- a text over 200
unfoldable pub long_v : Value → Bool
long_v value.Null = false
long_v (value.Boolean b) = false
long_v (value.Unsigned n) = false
long_v (value.Signed z) = false
long_v (value.Float n) = false
long_v (value.Text a n) = ltb text_size n
long_v value.Other = false
