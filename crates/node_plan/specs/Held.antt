-- A first value and a value held against a kind's limits, over the words of a row: how the code judges both at once. That this is the first value's rule and
-- the held value's is a law (proofs/HeldLaws.antt).
use Rattle.std.specs.Prelude.{Bool, ◌&&◌, ℕ, ◌%◌, leb, ltb}
use Rattle.std.specs.Int.{w64}
use Rattle.std.proofs.Common.{to_z}
use Rattle.base_bounds.specs.Bounds.{text_bytes_limit}
use Rattle.node_kinds.specs.Float.{range_of, in_range}
use Rattle.node_kinds.specs.Limits.{between, between_z}
use Rattle.node_schema.specs.Layout.{half}
use Rattle.node_plan.specs.Attributes.{by_code}
use Rattle.node_plan.specs.Check.{float_right}

unfoldable pub floats_right : ℕ → ℕ → ℕ → ℕ → Bool
floats_right low high first word = float_right low high first && (ltb word half && in_range (range_of (low % half) (high % half) (first % half)) word)

-- by the kind's code: the limits, the first value, the value held
unfoldable pub words_right : ℕ → ℕ → ℕ → ℕ → ℕ → Bool
unfolding floats_right
words_right code low high first word =
    by_code (leb first 1 && leb word 1) (between low first high && between low word high)
    (between_z (to_z w64 low) (to_z w64 first) (to_z w64 high) && between_z (to_z w64 low) (to_z w64 word) (to_z w64 high))
    (floats_right low high first word) (leb word text_bytes_limit) code
