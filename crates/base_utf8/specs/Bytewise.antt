-- Well-formed UTF-8 judged at each byte from the three before it. That this is the walk of Table 3-7 is a law (proofs/Bytewise.antt).
use Rattle.std.specs.Prelude.{◌≡◌, Bool, true, not, ◌&&◌, ◌||◌, List, [], ◌∷◌, ℕ, ◌-◌, ◌<◌, leb, ltb, eqb, get_or}

-- every byte is below k
unfoldable pub all_below : ℕ → List ℕ → Bool
all_below k [] = true
all_below k (a ∷ s) = ltb a k && all_below k s

-- m is the greatest byte, 0 of none: it is below just what every byte is below
abbrev pub Greatest : ℕ → List ℕ → Type 0
Greatest m s = (k : ℕ) → 0 < k → ltb m k ≡ all_below k s

-- a trailing byte must come after a, b, c: c begins a sequence, b one of three bytes or four, or a one of four
unfoldable pub due : ℕ → ℕ → ℕ → Bool
due a b c = leb 0xC0 c || (leb 0xE0 b || leb 0xF0 a)

unfoldable pub trails : ℕ → Bool
trails d = leb 0x80 d && leb d 0xBF

-- c is no byte that never occurs: C0, C1, F5 and up
unfoldable pub begins : ℕ → Bool
begins c = (ltb c 0xC0 || leb 0xC2 c) && ltb c 0xF5

-- the second byte after those first bytes that narrow it
unfoldable pub second : ℕ → ℕ → Bool
second c d =
    ((not (eqb c 0xE0) || leb 0xA0 d) && (not (eqb c 0xED) || leb d 0x9F))
    && ((not (eqb c 0xF0) || leb 0x90 d) && (not (eqb c 0xF4) || leb d 0x8F))

-- d may come after a, b, c: it trails exactly if that is due, and the byte before it allows it
unfoldable pub allowed : ℕ → ℕ → ℕ → ℕ → Bool
allowed a b c d = ((due a b c || not (trails d)) && (not (due a b c) || trails d)) && (begins c && second c d)

-- each of these bytes may come where it stands, after a, b, c, and at the end nothing is due
unfoldable pub judged : ℕ → ℕ → ℕ → List ℕ → Bool
judged a b c [] = not (due a b c)
judged a b c (d ∷ s) = allowed a b c d && judged b c d s

-- the byte k places before i
abbrev pub back : List ℕ → ℕ → ℕ → ℕ
back s i k = get_or s (i - k) 0

-- THE SAME where no byte begins a sequence of four bytes: the last two decide
unfoldable pub allowed3 : ℕ → ℕ → ℕ → Bool
allowed3 b c d =
    (((leb 0xC0 c || leb 0xE0 b) || not (trails d)) && (not (leb 0xC0 c || leb 0xE0 b) || trails d))
    && ((ltb c 0xC0 || leb 0xC2 c) && ((not (eqb c 0xE0) || leb 0xA0 d) && (not (eqb c 0xED) || leb d 0x9F)))

unfoldable pub judged3 : ℕ → ℕ → List ℕ → Bool
judged3 b c [] = ltb c 0xC0 && ltb b 0xE0
judged3 b c (d ∷ s) = allowed3 b c d && judged3 c d s

-- and where none begins one of three either: the last one does
unfoldable pub allowed2 : ℕ → ℕ → Bool
allowed2 c d = ((leb 0xC0 c || not (trails d)) && (not (leb 0xC0 c) || trails d)) && (ltb c 0xC0 || leb 0xC2 c)

unfoldable pub judged2 : ℕ → List ℕ → Bool
judged2 c [] = ltb c 0xC0
judged2 c (d ∷ s) = allowed2 c d && judged2 d s
