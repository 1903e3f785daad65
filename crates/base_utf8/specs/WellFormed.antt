-- Well-formed UTF-8: the Unicode Standard, definition D92 and Table 3-7.
use Rattle.std.specs.Prelude.{Bool, true, false, cond, ◌&&◌, List, [], ◌∷◌, ℕ, leb}

-- a range of bytes, both ends included
abbrev pub Range : Type 0
Range = ℕ × ℕ

-- a line of the table: the first byte's range, and those of the bytes that follow it
abbrev pub Line : Type 0
Line = Range × List Range

unfoldable pub within : Range → ℕ → Bool
within r b = leb r.0 b && leb b r.1

-- Table 3-7, well-formed UTF-8 byte sequences
unfoldable pub table : List Line
table =
    ((0x00, 0x7F), []) ∷
    ((0xC2, 0xDF), (0x80, 0xBF) ∷ []) ∷
    ((0xE0, 0xE0), (0xA0, 0xBF) ∷ (0x80, 0xBF) ∷ []) ∷
    ((0xE1, 0xEC), (0x80, 0xBF) ∷ (0x80, 0xBF) ∷ []) ∷
    ((0xED, 0xED), (0x80, 0x9F) ∷ (0x80, 0xBF) ∷ []) ∷
    ((0xEE, 0xEF), (0x80, 0xBF) ∷ (0x80, 0xBF) ∷ []) ∷
    ((0xF0, 0xF0), (0x90, 0xBF) ∷ (0x80, 0xBF) ∷ (0x80, 0xBF) ∷ []) ∷
    ((0xF1, 0xF3), (0x80, 0xBF) ∷ (0x80, 0xBF) ∷ (0x80, 0xBF) ∷ []) ∷
    ((0xF4, 0xF4), (0x80, 0x8F) ∷ (0x80, 0xBF) ∷ (0x80, 0xBF) ∷ []) ∷
    []

-- what follows a first byte, by the line that has it; where none has it, one byte in a range that has no byte
unfoldable pub after : ℕ → List Line → List Range
after a [] = (1, 0) ∷ []
after a (l ∷ ls) = cond (within l.0 a) l.1 (after a ls)

unfoldable pub trailing : ℕ → List Range
trailing a = after a table

-- the bytes complete the sequence that was begun, of which these ranges are to come, and go on with whole sequences
unfoldable pub completes : List Range → List ℕ → Bool
completes [] [] = true
completes [] (a ∷ s) = completes (trailing a) s
completes (r ∷ rs) [] = false
completes (r ∷ rs) (b ∷ s) = within r b && completes rs s

-- D92: one well-formed sequence after the other
unfoldable pub well_formed : List ℕ → Bool
well_formed s = completes [] s
