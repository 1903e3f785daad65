-- UTF-8 by what it spells, without the table of byte ranges: the Unicode Standard, D76 and Table 3-6.
use Rattle.std.specs.Prelude.{◌≡◌, cond, ◌⊎◌, List, [], ◌∷◌, ◌++◌, ℕ, ◌+◌, ◌/◌, ◌%◌, ◌<◌, ltb}

-- D76, a Unicode scalar value: any code point but a surrogate
abbrev pub Scalar : ℕ → Type 0
Scalar n = (n < 0xD800) ⊎ ((0xDFFF < n) × (n < 0x110000))

-- a trailing byte, 10xxxxxx, with the lowest six bits of a number
abbrev six : ℕ → ℕ
six n = 0x80 + n % 64

-- Table 3-6, UTF-8 bit distribution
unfoldable pub encode : ℕ → List ℕ
encode n =
    cond (ltb n 0x80) (n ∷ [])
    (cond (ltb n 0x800) ((0xC0 + n / 64) ∷ six n ∷ [])
    (cond (ltb n 0x10000) ((0xE0 + n / 4096) ∷ six (n / 64) ∷ six n ∷ [])
    ((0xF0 + n / 262144) ∷ six (n / 4096) ∷ six (n / 64) ∷ six n ∷ [])))

abbrev pub Scalars : List ℕ → Type 0
Scalars [] = Unit {0}
Scalars (n ∷ ns) = Scalar n × Scalars ns

-- the encodings, one after the other
unfoldable pub joined : List ℕ → List ℕ
joined [] = []
joined (n ∷ ns) = encode n ++ joined ns

-- the bytes are the encodings of some scalar values
abbrev pub Spelled : List ℕ → Type 0
Spelled s = (ns : List ℕ) × Scalars ns × (joined ns ≡ s)
