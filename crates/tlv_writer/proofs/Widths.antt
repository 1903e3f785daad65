-- Laws of the least width: over any test of a width, and so of signed and unsigned numbers alike.
use mathlib.Core.Path.{◌≡◌, refl, ap, ◌∙◌}
use mathlib.Core.Bool.{Bool, true, false}
use mathlib.Core.List.{List, ◌∷◌}
use Prim.Native.Nat.{ℕ, zero, suc, ◌+◌, ◌-◌, ◌*◌, ◌/◌, ◌%◌, ◌^◌, ◌<◌, ◌≤◌}
use native.Mathlib.Nat.{pow-suc, one-le-pow}
use lib.Pow.{pow-add}
use native.Mathlib.Omega.{arith}
use borrow.Author.Tests.{ltb-true, leb-true, leb-false, lt-ltb, le-leb, lt-leb}
use lib.Dec.{ltb, leb}
use lib.IntN.{ℤ, pos, negsuc}
use lib.Signed.{mag}
use Rattle.base_octets.specs.Number.{bytes_of}
use Rattle.tlv_reader.specs.Octet.{pick, number_width}
use Rattle.tlv_reader.specs.Tree.{complement}
use Rattle.tlv_writer.specs.Width.{least_of, least_width, least_signed_width, twos, width_code}

-- the widths of a number in TLV
pub data IsWidth : ℕ → Type 0 where
  one : IsWidth 1
  two : IsWidth 2
  four : IsWidth 4
  eight : IsWidth 8

module _ (holds : ℕ → Bool) where
  pub least-is-width : IsWidth (least_of holds)
  unfolding least_of
  least-is-width = go (holds 1) (holds 2) (holds 4)
    where
      go : (a b c : Bool) → IsWidth (pick a 1 (pick b 2 (pick c 4 8)))
      go true b c = one
      go false true c = two
      go false false true = four
      go false false false = eight

  -- where 8 octets hold the number, the least width does
  pub least-holds : holds 8 ≡ true → holds (least_of holds) ≡ true
  unfolding least_of
  least-holds h = go (holds 1) (holds 2) (holds 4) refl refl refl
    where
      go : (a b c : Bool) → holds 1 ≡ a → holds 2 ≡ b → holds 4 ≡ c → holds (pick a 1 (pick b 2 (pick c 4 8))) ≡ true
      go true b c p q r = p
      go false true c p q r = q
      go false false true p q r = r
      go false false false p q r = h

  -- and no width that holds it is less
  pub least-below : {w : ℕ} → IsWidth w → holds w ≡ true → least_of holds ≤ w
  unfolding least_of
  least-below one h = rw h (omega arith)
  least-below two h = rw h (go (holds 1))
    where
      go : (a : Bool) → pick a 1 2 ≤ 2
      go true = omega arith
      go false = omega arith
  least-below four h = rw h (go (holds 1) (holds 2))
    where
      go : (a b : Bool) → pick a 1 (pick b 2 4) ≤ 4
      go true b = omega arith
      go false true = omega arith
      go false false = omega arith
  least-below eight h = go (holds 1) (holds 2) (holds 4)
    where
      go : (a b c : Bool) → pick a 1 (pick b 2 (pick c 4 8)) ≤ 8
      go true b c = omega arith
      go false true c = omega arith
      go false false true = omega arith
      go false false false = omega arith

-- an element type's lower two bits say its number's width: of signed and unsigned integers, and of a text's length
pub code-width : {w : ℕ} → IsWidth w → (number_width (width_code w) ≡ w) × ((number_width (4 + width_code w) ≡ w) × (number_width (12 + width_code w) ≡ w))
unfolding number_width width_code
code-width one = (refl, (refl, refl))
code-width two = (refl, (refl, refl))
code-width four = (refl, (refl, refl))
code-width eight = (refl, (refl, refl))

pub code-small : {w : ℕ} → IsWidth w → width_code w < 4
unfolding width_code
code-small one = omega arith
code-small two = omega arith
code-small four = omega arith
code-small eight = omega arith

-- the widths of those element types
pub kind-width : (j : ℕ) → j < 4 → IsWidth (number_width j) × (IsWidth (number_width (4 + j)) × IsWidth (number_width (12 + j)))
unfolding number_width
kind-width zero h = (one, (one, one))
kind-width (suc zero) h = (two, (two, two))
kind-width (suc (suc zero)) h = (four, (four, four))
kind-width (suc (suc (suc zero))) h = (eight, (eight, eight))
kind-width (suc (suc (suc (suc j)))) h = absurd (omega arith)

pub unsigned-is-width : (v : ℕ) → IsWidth (least_width v)
unfolding least_width
unsigned-is-width v = least-is-width (λ w. ltb v (256 ^ w))

pub signed-is-width : (z : ℤ) → IsWidth (least_signed_width z)
unfolding least_signed_width
signed-is-width z = least-is-width (λ w. ltb (mag z) (256 ^ w / 2))

pub unsigned-fits : (v : ℕ) → v < 2 ^ 64 → v < 256 ^ least_width v
unfolding least_width
unsigned-fits v h = ltb-true v _ (least-holds (λ w. ltb v (256 ^ w)) (lt-ltb v (256 ^ 8) h))

pub signed-fits : (z : ℤ) → mag z < 2 ^ 63 → mag z < 256 ^ least_signed_width z / 2
unfolding least_signed_width
signed-fits z h = ltb-true (mag z) _ (least-holds (λ w. ltb (mag z) (256 ^ w / 2)) (lt-ltb (mag z) (256 ^ 8 / 2) h))

pub unsigned-below : (v : ℕ) {w : ℕ} → IsWidth w → v < 256 ^ w → least_width v ≤ w
unfolding least_width
unsigned-below v i h = least-below (λ w. ltb v (256 ^ w)) i (lt-ltb v _ h)

pub signed_below : (z : ℤ) {w : ℕ} → IsWidth w → mag z < 256 ^ w / 2 → least_signed_width z ≤ w
unfolding least_signed_width
signed_below z i h = least-below (λ w. ltb (mag z) (256 ^ w / 2)) i (lt-ltb (mag z) _ h)

-- two's complement at any width that holds the number
pub twos-fits : (w : ℕ) (z : ℤ) → mag z < 256 ^ w / 2 → twos w z < 256 ^ w
unfolding twos
twos-fits w (pos n) h = omega arith
twos-fits w (negsuc n) h = omega arith

pub twos_back : (w : ℕ) (z : ℤ) → mag z < 256 ^ w / 2 → complement (256 ^ w - 1) (twos w z) ≡ z
unfolding twos complement
twos_back w (pos n) h = rw (le-leb n ((256 ^ w - 1) / 2) (omega arith)) refl
twos_back w (negsuc n) h =
    let e : 256 ^ w - 1 - (256 ^ w - suc n) ≡ n = omega arith in
    rw (lt-leb (256 ^ w - suc n) ((256 ^ w - 1) / 2) (omega arith)) (ap negsuc e)

-- what w octets are in two's complement, w octets hold
complement-fits : (w n : ℕ) → n < 256 ^ suc w → mag (complement (256 ^ suc w - 1) n) < 256 ^ suc w / 2
unfolding complement
complement-fits w n h = go (leb n ((256 ^ suc w - 1) / 2)) refl
  where
    go : (b : Bool) → leb n ((256 ^ suc w - 1) / 2) ≡ b → mag (pick b (pos n) (negsuc (256 ^ suc w - 1 - n))) < 256 ^ suc w / 2
    go true e = omega (arith, pow-suc 256 w, leb-true)
    go false e = omega (arith, pow-suc 256 w, leb-false)

pub complement-width : {w : ℕ} (n : ℕ) → IsWidth w → n < 256 ^ w → mag (complement (256 ^ w - 1) n) < 256 ^ w / 2
complement-width n one h = complement-fits 0 n h
complement-width n two h = complement-fits 1 n h
complement-width n four h = complement-fits 3 n h
complement-width n eight h = complement-fits 7 n h

-- a number's low octets
pub low-octets : (w a k : ℕ) → bytes_of w (a + 256 ^ w * k) ≡ bytes_of w a
unfolding bytes_of
low-octets zero a k = refl
low-octets (suc w) a k =
    let e : a + 256 ^ suc w * k ≡ a + 256 * (256 ^ w * k) = rw pow-suc (omega arith) in
    let e1 : (a + 256 * (256 ^ w * k)) % 256 ≡ a % 256 = omega arith in
    let e2 : (a + 256 * (256 ^ w * k)) / 256 ≡ a / 256 + 256 ^ w * k = omega arith in
    rw (e, e1, e2) (ap (λ (l : List ℕ). (a % 256) ∷ l) (low-octets w (a / 256) k))

part : (p j n : ℕ) {t : ℕ} → t ≡ p * suc j → n < p → t - suc n ≡ p - suc n + p * j
part p j n e h = omega arith

low : (w k n : ℕ) → n < 256 ^ w / 2 → bytes_of w (256 ^ (w + k) - suc n) ≡ bytes_of w (256 ^ w - suc n)
low w k n h =
    let q : 256 ^ k ≡ suc (256 ^ k - 1) = omega (arith, one-le-pow k 256 (omega arith)) in
    let e : 256 ^ (w + k) - suc n ≡ 256 ^ w - suc n + 256 ^ w * (256 ^ k - 1) = part (256 ^ w) (256 ^ k - 1) n (pow-add 256 w k ∙ ap (λ (x : ℕ). 256 ^ w * x) q) (omega arith) in
    rw e (low-octets w (256 ^ w - suc n) (256 ^ k - 1))

-- the low octets of a number's 64 bits are its two's complement in a width that holds it
pub twos-low : {w : ℕ} (z : ℤ) → IsWidth w → mag z < 256 ^ w / 2 → bytes_of w (twos 8 z) ≡ bytes_of w (twos w z)
unfolding twos
twos-low (pos n) i h = refl
twos-low (negsuc n) one h = low 1 7 n h
twos-low (negsuc n) two h = low 2 6 n h
twos-low (negsuc n) four h = low 4 4 n h
twos-low (negsuc n) eight h = refl
