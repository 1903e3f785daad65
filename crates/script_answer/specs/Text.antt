-- An answer's line of text (RULES 1.4): its number in decimal, then a space and two capital hex digits for each byte.
use Rattle.std.specs.Prelude.{List, [], ◌∷◌, ◌++◌, ℕ, ◌+◌, ◌/◌, ◌%◌, ltb}
use Rattle.tlv_reader.specs.Octet.{pick}

-- the digit of a number below 16: 0 to 9 are the bytes 48 to 57, A to F 65 to 70
unfoldable pub digit_of : ℕ → ℕ
digit_of n = pick (ltb n 10) (48 + n) (55 + n)

-- a number below 1,000 in decimal, with no zero in front
unfoldable pub decimal_text : ℕ → List ℕ
decimal_text n =
    pick (ltb n 10) (digit_of n ∷ [])
    (pick (ltb n 100) (digit_of (n / 10) ∷ digit_of (n % 10) ∷ [])
    (digit_of (n / 100) ∷ digit_of (n / 10 % 10) ∷ digit_of (n % 10) ∷ []))

-- a space and two digits for each byte
unfoldable pub hex_text : List ℕ → List ℕ
hex_text [] = []
hex_text (x ∷ xs) = 32 ∷ digit_of (x / 16) ∷ digit_of (x % 16) ∷ hex_text xs

-- the line, with its end
abbrev pub answer_text : ℕ → List ℕ → List ℕ
answer_text n xs = decimal_text n ++ (hex_text xs ++ (10 ∷ []))
