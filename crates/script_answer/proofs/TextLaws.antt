-- Laws of an answer's text.
use mathlib.Core.Path.{◌≡◌, refl, ap}
use mathlib.Core.Bool.{Bool, true, false}
use mathlib.Core.List.{List, [], ◌∷◌, ◌++◌}
use Prim.Native.Nat.{ℕ, zero, suc, ◌*◌, ◌/◌, ◌%◌, ◌<◌, ◌≤◌}
use native.Mathlib.Omega.{arith}
use lib.Dec.{ltb}
use lib.ListN.{length, take, get_or}
use Rattle.tlv_reader.specs.Octet.{pick}
use Rattle.script_answer.specs.Text.{digit_of, decimal_text, hex_text}

three : (a b : Bool) (u v w x y z : ℕ) → length (pick a (u ∷ []) (pick b (v ∷ w ∷ []) (x ∷ y ∷ z ∷ []))) ≤ 3
three true b u v w x y z = omega arith
three false true u v w x y z = omega arith
three false false u v w x y z = omega arith

pub length-decimal : (n : ℕ) → length (decimal_text n) ≤ 3
unfolding decimal_text
length-decimal n = three (ltb n 10) (ltb n 100) _ _ _ _ _ _

pub length-hex : (xs : List ℕ) → length (hex_text xs) ≡ 3 * length xs
unfolding hex_text
length-hex [] = refl
length-hex (x ∷ xs) = omega (arith, length-hex xs)

-- the text of one byte more
pub hex-more : (xs : List ℕ) (i : ℕ) → i < length xs → hex_text (take (suc i) xs) ≡ hex_text (take i xs) ++ (32 ∷ digit_of (get_or xs i 0 / 16) ∷ digit_of (get_or xs i 0 % 16) ∷ [])
unfolding hex_text
hex-more [] i h = absurd (omega arith)
hex-more (x ∷ xs) zero h = refl
hex-more (x ∷ xs) (suc i) h = ap (λ (t : List ℕ). 32 ∷ digit_of (x / 16) ∷ digit_of (x % 16) ∷ t) (hex-more xs i (omega arith))
