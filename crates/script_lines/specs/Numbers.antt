-- What the digits of a word say, and the numbers of a line. A digit is a byte: 0 to 9 are 48 to 57, A to F 65 to 70, a to f 97 to 102.
use Rattle.std.specs.Prelude.{List, [], ◌∷◌, Bool, false, ℕ, ◌+◌, ◌*◌, ◌-◌, ◌^◌, ◌%◌, ltb, leb, eqb, length, Some, None, Option}
use Rattle.std.specs.Option.{option_and_then}
use Rattle.tlv_reader.specs.Octet.{pick}
use Rattle.script_lines.specs.declared.Scan.{Scan}
use Rattle.script_lines.specs.declared.Word.{Word}
use Rattle.script_lines.specs.declared.number.Number.{Number as NumberRead}
use Rattle.script_lines.specs.declared.number.MarkedNumber.{MarkedNumber}
use Rattle.script_lines.specs.Words.{failed_at, next_word, word_bytes}

-- decimal digits after those that say n; a number has 64 bits
unfoldable pub decimal_from : ℕ → List ℕ → Option ℕ
decimal_from n [] = Some n
decimal_from n (c ∷ cs) =
    pick (ltb c 48) None
    (pick (ltb 57 c) None
    (pick (ltb (n * 10 + (c - 48)) (2 ^ 64)) (decimal_from (n * 10 + (c - 48)) cs) None))

-- one digit at least
abbrev pub decimal_of : List ℕ → Option ℕ
decimal_of w = pick (eqb (length w) 0) None (decimal_from 0 w)

-- the number of a hex digit in either case; none of a byte that is no digit
abbrev pub hex_digit : ℕ → Option ℕ
hex_digit c =
    pick (ltb c 48) None
    (pick (leb c 57) (Some (c - 48))
    (pick (ltb c 65) None
    (pick (leb c 70) (Some (c - 65 + 10))
    (pick (ltb c 97) None
    (pick (leb c 102) (Some (c - 97 + 10)) None)))))

-- hex digits after those that say n
unfoldable pub hex_from : ℕ → List ℕ → Option ℕ
hex_from n [] = Some n
hex_from n (c ∷ cs) = option_and_then (λ d. hex_from (n * 16 + d) cs) (hex_digit c)

-- eight hex digits
abbrev pub hex_of : List ℕ → Option ℕ
hex_of w = pick (eqb (length w) 8) (hex_from 0 w) None

-- a number with what comes after it
abbrev pub read_as : ℕ → Scan → NumberRead
read_as n next = record { value = n; next = next }

-- none could be read
abbrev pub unread_at : Scan → NumberRead
unread_at next = read_as 0 (failed_at next)

-- what the digits say, if it is at most the highest
abbrev pub at_most : ℕ → Scan → Option ℕ → NumberRead
at_most highest next (Some n) = pick (ltb highest n) (unread_at next) (read_as n next)
at_most highest next None = unread_at next

-- a word as a decimal number
abbrev pub number_in : List ℕ → ℕ → Word → NumberRead
number_in line highest w = at_most highest w.next (decimal_of (word_bytes line w))

unfoldable pub number_at : List ℕ → Scan → ℕ → NumberRead
number_at line s highest = number_in line highest (next_word line s)

-- a word as the bits of a float32
abbrev pub float_in : List ℕ → Word → NumberRead
float_in line w = at_most 4294967295 w.next (hex_of (word_bytes line w))

unfoldable pub float_at : List ℕ → Scan → NumberRead
float_at line s = float_in line (next_word line s)

-- whether a word is one byte, this one
abbrev pub is_byte : List ℕ → ℕ → Bool
is_byte [] b = false
is_byte (c ∷ []) b = eqb c b
is_byte (c ∷ d ∷ w) b = false

-- a word as 0 or 1
abbrev pub flag_in : List ℕ → Word → NumberRead
flag_in line w = pick (is_byte (word_bytes line w) 48) (read_as 0 w.next) (pick (is_byte (word_bytes line w) 49) (read_as 1 w.next) (unread_at w.next))

unfoldable pub flag_at : List ℕ → Scan → NumberRead
flag_at line s = flag_in line (next_word line s)

abbrev pub marked : Scan → MarkedNumber
marked next = record { value = None; next = next }

abbrev pub unmarked : NumberRead → MarkedNumber
unmarked n = record { value = Some n.value; next = n.next }

-- a word as a mark or as a decimal number
abbrev pub marked_in : List ℕ → ℕ → ℕ → Word → MarkedNumber
marked_in line mark highest w = pick (is_byte (word_bytes line w) mark) (marked w.next) (unmarked (number_in line highest w))

unfoldable pub marked_at : List ℕ → Scan → ℕ → ℕ → MarkedNumber
marked_at line s mark highest = marked_in line mark highest (next_word line s)

-- a magnitude below zero, in two's complement of 64 bits
abbrev pub negated_of : NumberRead → NumberRead
negated_of n = read_as ((2 ^ 64 - n.value) % 2 ^ 64) n.next

-- the digits of a signed number, in two's complement of 64 bits: one below zero starts with a minus sign, the byte 45
unfoldable pub signed_of : Scan → List ℕ → NumberRead
signed_of next [] = unread_at next
signed_of next (c ∷ cs) = pick (eqb c 45) (negated_of (at_most (2 ^ 63) next (decimal_of cs))) (at_most (2 ^ 63 - 1) next (decimal_of (c ∷ cs)))

-- a word as a signed number
abbrev pub signed_in : List ℕ → Word → NumberRead
signed_in line w = signed_of w.next (word_bytes line w)

unfoldable pub signed_at : List ℕ → Scan → NumberRead
signed_at line s = signed_in line (next_word line s)
