-- Little-endian numbers of any width (RULES 4.2).
use Rattle.std.specs.Prelude.{ℕ, zero, suc, ◌+◌, ◌*◌, ◌/◌, ◌%◌, ◌<◌, List, [], ◌∷◌, length, get_or, take, drop}

-- the number that a list of bytes is, the first byte the least
unfoldable pub number_of : List ℕ → ℕ
number_of [] = 0
number_of (b ∷ l) = b + 256 * number_of l

-- the w low bytes of a number, the least first
unfoldable pub bytes_of : ℕ → ℕ → List ℕ
bytes_of zero n = []
bytes_of (suc w) n = (n % 256) ∷ bytes_of w (n / 256)

-- the number in the w bytes from a position on
abbrev pub number_at : ℕ → List ℕ → ℕ → ℕ
number_at w s at = number_of (take w (drop at s))

-- every element is a byte
unfoldable pub Bytes : List ℕ → Type 0
Bytes l = (k : ℕ) → k < length l → get_or l k 0 < 256
