-- Floats of an attribute, given by their 32 bits (RULES 2.8, 2.9).
use Rattle.std.specs.Prelude.{Bool, true, false, ◌&&◌, cond, ℕ, pos, Float}
use Rattle.std.specs.Float.{nan, inf, fin, binary32}
use Rattle.std.specs.Float.Ieee.{of_bits, nan_bits, le}
use Rattle.node_kinds.specs.declared.Range.{Range}

-- the float of a bit pattern; each pattern of a NaN is the one `nan`
abbrev pub float32 : ℕ → Float
float32 n = of_bits binary32 n

abbrev pub finite : Float → Bool
finite nan = false
finite (inf s) = false
finite (fin s m e) = true

-- the float that the code computes with: 0.0 for a NaN's pattern
unfoldable pub float_of : ℕ → Float
float_of n = cond (nan_bits binary32 n) (fin false 0 (pos 0)) (float32 n)

unfoldable pub range_of : ℕ → ℕ → ℕ → Range
unfolding float_of
range_of low high first = record { low = float_of low; high = float_of high; first = float_of first }

-- RULES 2.9: in range, both ends included; no comparison with a NaN holds
unfoldable pub in_range : Range → ℕ → Bool
in_range r n = le r.low (float32 n) && le (float32 n) r.high

-- RULES 2.8: the order of the three
abbrev pub in_order : Float → Float → Float → Bool
in_order low high first = le low first && le first high

-- RULES 2.8: the three are finite and in order
unfoldable pub range_ok : ℕ → ℕ → ℕ → Bool
range_ok low high first =
    finite (float32 low) && (finite (float32 high) && (finite (float32 first) && in_order (float32 low) (float32 high) (float32 first)))
