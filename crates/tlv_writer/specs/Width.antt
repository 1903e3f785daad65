-- How many octets a number is written in: the least width (RULES 4.3).
use Rattle.std.specs.Prelude.{ℕ, suc, ◌-◌, ◌/◌, ◌^◌, Bool, ltb, eqb, ℤ, pos, negsuc}
use Rattle.std.specs.Int.Signed.{mag}
use Rattle.tlv_reader.specs.Octet.{pick}

-- the least of 1, 2, 4 and 8 octets of which a test holds, or 8
unfoldable pub least_of : (ℕ → Bool) → ℕ
least_of holds = pick (holds 1) 1 (pick (holds 2) 2 (pick (holds 4) 4 8))

-- w octets hold the numbers below 256 ^ w
unfoldable pub least_width : ℕ → ℕ
least_width v = least_of (λ w. ltb v (256 ^ w))

-- in two's complement w octets hold the numbers from -(256 ^ w / 2) to 256 ^ w / 2 - 1; mag is n both of n and of -1 - n
unfoldable pub least_signed_width : ℤ → ℕ
least_signed_width z = least_of (λ w. ltb (mag z) (256 ^ w / 2))

-- a number's two's complement in w octets
unfoldable pub twos : ℕ → ℤ → ℕ
twos w (pos n) = n
twos w (negsuc n) = 256 ^ w - suc n

-- the lower two bits of an element type say how wide its number is
unfoldable pub width_code : ℕ → ℕ
width_code w = pick (eqb w 1) 0 (pick (eqb w 2) 1 (pick (eqb w 4) 2 3))
