-- Bytes of a line: two hex digits each, a space between two, to the end of the line.
use Rattle.std.specs.Prelude.{List, [], ◌∷◌, ◌++◌, Bool, false, ◌&&◌, ℕ, ◌+◌, ◌*◌, min, eqb, length, take, drop, is_some, Some, None, Option}
use Rattle.std.specs.Option.{option_and_then, option_map}
use Rattle.base_octets.specs.Store.{store}
use Rattle.tlv_reader.specs.Octet.{pick}
use Rattle.script_lines.specs.declared.Scan.{Scan}
use Rattle.script_lines.specs.declared.hex.Bytes.{Bytes}
use Rattle.script_lines.specs.Words.{space}
use Rattle.script_lines.specs.Numbers.{hex_digit}

-- the byte that two digits say
unfoldable pub byte_of : ℕ → ℕ → Option ℕ
byte_of a b = option_and_then (λ high. option_map (λ low. high * 16 + low) (hex_digit b)) (hex_digit a)

-- the byte at the start of a list; none where two digits do not stand there
abbrev pub byte_in : List ℕ → Option ℕ
byte_in [] = None
byte_in (a ∷ []) = None
byte_in (a ∷ b ∷ cs) = byte_of a b

abbrev pub are_digits : ℕ → ℕ → Bool
are_digits a b = is_some (byte_of a b)

-- whether the rest of a line is bytes, one at least
unfoldable pub are_bytes : List ℕ → Bool
are_bytes [] = false
are_bytes (a ∷ []) = false
are_bytes (a ∷ b ∷ []) = are_digits a b
are_bytes (a ∷ b ∷ c ∷ cs) = are_digits a b && (eqb c space && are_bytes cs)

-- a byte in front of others, which stand only behind one
abbrev pub in_front : Option ℕ → List ℕ → List ℕ
in_front None bs = []
in_front (Some b) bs = b ∷ bs

-- the bytes up to the first place where none can be read
unfoldable pub bytes_in : List ℕ → List ℕ
bytes_in [] = []
bytes_in (a ∷ []) = []
bytes_in (a ∷ b ∷ []) = in_front (byte_of a b) []
bytes_in (a ∷ b ∷ c ∷ cs) = in_front (byte_of a b) (pick (eqb c space) (bytes_in cs) [])

abbrev pub bytes_read : ℕ → Bool → Bytes
bytes_read n ok = record { len = n; ok = ok }

-- how many bytes the rest of a line has, up to the room for them, and whether it could be read; no word is no byte
unfoldable pub rest_at : List ℕ → Scan → ℕ → Bytes
rest_at line s room =
    pick s.more
    (pick (are_bytes (drop s.at line)) (bytes_read (min (length (bytes_in (drop s.at line))) room) s.ok) (bytes_read 0 false))
    (bytes_read 0 s.ok)

-- a buffer with these bytes at its start; what is past its end is not kept
unfoldable pub rest_kept : List ℕ → Scan → List ℕ → List ℕ
rest_kept line s old = pick s.more (store old 0 (bytes_in (drop s.at line))) old

-- a list whose first n, or as many as there are, were lent and have come back as these
abbrev pub front_as : ℕ → List ℕ → List ℕ → List ℕ
front_as n old part = part ++ drop n old

-- a buffer whose first n bytes were lent, with these stored there; the rest is as it was
abbrev pub stored_in : ℕ → List ℕ → List ℕ → List ℕ
stored_in n old bytes = front_as n old (store (take n old) 0 bytes)
