-- The envelope (RULES 3.1, 3.2): eight octets, most significant bit first.
use Rattle.std.specs.Prelude.{ℕ, zero, suc, ◌+◌, ◌*◌, ◌/◌, ◌%◌, ◌^◌, List, [], ◌∷◌, length}

-- the w octets of a number, the most significant first
unfoldable pub big_octets : ℕ → ℕ → List ℕ
big_octets zero n = []
big_octets (suc w) n = (n / 256 ^ w % 256) ∷ big_octets w n

-- the number that octets are, the first the most significant
unfoldable pub big_number : List ℕ → ℕ
big_number [] = 0
big_number (b ∷ l) = b * 256 ^ length l + big_number l

-- bytes of the envelope (RULES 3.1)
abbrev pub envelope_length : ℕ
envelope_length = 8

-- the edition (RULES 3.2) of the exchanges that a cache begins, and there are no others
abbrev pub cache_edition : ℕ
cache_edition = 0

-- how many exchange numbers there are: they have 40 bits
abbrev pub exchange_limit : ℕ
exchange_limit = 2 ^ 40

-- edition 4 bits, opcode 4, exchange 40, turn 16
unfoldable pub envelope_word : ℕ → ℕ → ℕ → ℕ → ℕ
envelope_word edition opcode exchange turn = ((edition * 2 ^ 4 + opcode) * exchange_limit + exchange) * 2 ^ 16 + turn

unfoldable pub envelope_octets : ℕ → ℕ → ℕ → ℕ → List ℕ
envelope_octets edition opcode exchange turn = big_octets envelope_length (envelope_word edition opcode exchange turn)
