-- Laws of the envelope.
use mathlib.Core.Path.{◌≡◌, refl, sym, ap, ◌∙◌}
use mathlib.Core.List.{List, [], ◌∷◌}
use Prim.Native.Nat.{ℕ, zero, suc, ◌+◌, ◌*◌, ◌/◌, ◌%◌, ◌^◌, ◌<◌}
use native.Mathlib.Omega.{arith}
use native.Mathlib.Nat.{pow-suc, pow-zero, mul_comm, mod-eq_of_lt, one-le-pow}
use lib.Arith.{mod-mul}
use lib.ListN.{length}
use Rattle.base_octets.specs.Store.{Stored}
use Rattle.base_octets.proofs.StoreLaws.{then}
use Rattle.im_writer.specs.Envelope.{big_octets, big_number, envelope_length, exchange_limit, envelope_word, envelope_octets}

-- the octets as the code stores them
envelope-is : (edition opcode exchange turn w : ℕ) → w ≡ ((edition * 16 + opcode) * 1099511627776 + exchange) * 65536 + turn → envelope_octets edition opcode exchange turn ≡ (w / 72057594037927936 % 256) ∷ (w / 281474976710656 % 256) ∷ (w / 1099511627776 % 256) ∷ (w / 4294967296 % 256) ∷ (w / 16777216 % 256) ∷ (w / 65536 % 256) ∷ (w / 256 % 256) ∷ (w % 256) ∷ []
unfolding envelope_octets envelope_word big_octets
envelope-is edition opcode exchange turn w e =
    let o : w / 1 ≡ w = omega arith in
    rw (← e, o) refl

-- and as it stores them, two at a time
pub envelope-stored : {o : List ℕ} {at : ℕ} {o₁ : List ℕ} {p : ℕ} {o₂ : List ℕ} {q : ℕ} {o₃ : List ℕ} {r : ℕ} {o₄ : List ℕ} {s : ℕ} (edition opcode exchange turn w : ℕ) → w ≡ ((edition * 16 + opcode) * 1099511627776 + exchange) * 65536 + turn → Stored o at ((w / 72057594037927936 % 256) ∷ (w / 281474976710656 % 256) ∷ []) o₁ p → Stored o₁ p ((w / 1099511627776 % 256) ∷ (w / 4294967296 % 256) ∷ []) o₂ q → Stored o₂ q ((w / 16777216 % 256) ∷ (w / 65536 % 256) ∷ []) o₃ r → Stored o₃ r ((w / 256 % 256) ∷ (w % 256) ∷ []) o₄ s → Stored o at (envelope_octets edition opcode exchange turn) o₄ s
envelope-stored edition opcode exchange turn w e x y z u = rw (envelope-is edition opcode exchange turn w e) (then x (then y (then z u)))

pub length-big : (w n : ℕ) → length (big_octets w n) ≡ w
unfolding big_octets
length-big zero n = refl
length-big (suc w) n = ap suc (length-big w n)

pub length-envelope : (edition opcode exchange turn : ℕ) → length (envelope_octets edition opcode exchange turn) ≡ envelope_length
unfolding envelope_octets
length-envelope edition opcode exchange turn = length-big envelope_length (envelope_word edition opcode exchange turn)

-- octets, most significant first, are the number's low octets
pub big-back : (w n : ℕ) → big_number (big_octets w n) ≡ n % 256 ^ w
unfolding big_octets big_number
big-back zero n = omega (arith, ap (λ (p : ℕ). n % p) (pow-zero 256))
big-back (suc w) n =
    let e : n % (256 * 256 ^ w) ≡ (n / 256 ^ w % 256) * 256 ^ w + n % 256 ^ w = mod-mul n (omega arith) (one-le-pow w 256 (omega arith)) in
    rw (length-big w n, big-back w n, pow-suc, mul_comm (256 ^ w) 256) (sym e)

-- THE ENVELOPE, read back: its number, and the fields in it
module _ (edition opcode exchange turn : ℕ) (fe : edition < 16) (fo : opcode < 16) (fx : exchange < exchange_limit) (ft : turn < 2 ^ 16) where
  pub envelope-back : big_number (envelope_octets edition opcode exchange turn) ≡ envelope_word edition opcode exchange turn
  unfolding envelope_octets envelope_word
  envelope-back = big-back envelope_length (envelope_word edition opcode exchange turn) ∙ mod-eq_of_lt (omega arith)
