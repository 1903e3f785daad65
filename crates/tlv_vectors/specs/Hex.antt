-- Hex digits as bytes: 0 to 9 are 48 to 57, A to F are 65 to 70; and how many octets of a buffer they fill.
use Rattle.std.specs.Prelude.{◌≡◌, List, ℕ, ◌+◌, ◌-◌, ◌≤◌, ltb, leb, length, take, Some, None, Option}
use Rattle.tlv_reader.specs.Octet.{pick}

-- the digit of a number below 16
abbrev pub hex_digit : ℕ → ℕ
hex_digit n = pick (ltb n 10) (48 + n) (65 + (n - 10))

-- the number of a digit; none of a byte that is no digit
abbrev pub hex_value : ℕ → Option ℕ
hex_value c = pick (ltb c 48) None (pick (leb c 57) (Some (c - 48)) (pick (ltb c 65) None (pick (leb c 70) (Some (c - 65 + 10)) None)))

-- n octets at the start of xs. The second part follows from the first; both are said, so that who lends that part of an array finds them
abbrev pub IsPrefixLen : ℕ → List ℕ → Type 0
IsPrefixLen n xs = (n ≤ length xs) × (n ≡ length (take n xs))
