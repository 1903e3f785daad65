-- Laws of little-endian numbers, at any width.
use mathlib.Core.Path.{◌≡◌, refl, sym, ap}
use mathlib.Core.List.{List, [], ◌∷◌, ◌++◌}
use Prim.Native.Nat.{ℕ, zero, suc, ◌+◌, ◌*◌, ◌/◌, ◌%◌, ◌^◌, ◌<◌, ◌≤◌}
use native.Mathlib.Nat.{pow-suc, pow-zero, pow-le-pow_right}
use native.Mathlib.Numerals.{add-one}
use native.Mathlib.Omega.{arith}
use lib.ListN.{length, get_or, take, drop, length-drop, take-append-drop}
use lib.Seq.{drop-cons, drop-drop, length-take-le, get_or-drop, get_or-take, take_at, drop_at}
use Rattle.base_octets.specs.Number.{number_of, bytes_of, number_at, Bytes}

-- number to bytes to number
pub number-back : (w n : ℕ) → n < 256 ^ w → number_of (bytes_of w n) ≡ n
unfolding number_of bytes_of
number-back zero n h = let h' : n < 1 = rw pow-zero at h in omega arith
number-back (suc w) n h =
    let h' : n < 256 ^ w * 256 = rw pow-suc at h in
    let ih = number-back w (n / 256) (omega arith) in
    omega arith

-- bytes to number to bytes
pub bytes_back : (l : List ℕ) → Bytes l → bytes_of (length l) (number_of l) ≡ l
unfolding number_of bytes_of Bytes
bytes_back [] h = refl
bytes_back (b ∷ l) h =
    let hb : b < 256 = h 0 (omega arith) in
    let e1 : (b + 256 * number_of l) % 256 ≡ b = omega arith in
    let e2 : (b + 256 * number_of l) / 256 ≡ number_of l = omega arith in
    rw (e1, e2) (ap (λ (t : List ℕ). b ∷ t) (bytes_back l (λ k hk. h (suc k) (omega arith))))

pub number-below : (l : List ℕ) → Bytes l → number_of l < 256 ^ length l
unfolding number_of Bytes
number-below [] h = omega (arith, pow-zero 256)
number-below (b ∷ l) h =
    let hb : b < 256 = h 0 (omega arith) in
    let ih = number-below l (λ k hk. h (suc k) (omega arith)) in
    rw pow-suc (omega arith)

pub length-bytes : (w n : ℕ) → length (bytes_of w n) ≡ w
unfolding bytes_of
length-bytes zero n = refl
length-bytes (suc w) n = ap suc (length-bytes w (n / 256))

pub bytes-are-bytes : (w n : ℕ) → Bytes (bytes_of w n)
unfolding Bytes bytes_of
bytes-are-bytes zero n k h = absurd (omega arith)
bytes-are-bytes (suc w) n zero h = omega arith
bytes-are-bytes (suc w) n (suc k) h = bytes-are-bytes w (n / 256) k (omega arith)

-- a part of bytes is bytes
pub part_bytes_lem : (s : List ℕ) (a w : ℕ) → Bytes s → a + w ≤ length s → Bytes (take w (drop a s))
unfolding Bytes
part_bytes_lem s a w h fits k hk =
    let l : length (take w (drop a s)) ≡ w = length-take-le w (drop a s) (omega (arith, length-drop a s)) in
    rw (get_or-take w (drop a s) k 0 (omega arith), get_or-drop a s k 0) (h (a + k) (omega arith))

-- the number at a place, and the bytes there
module _ (s : List ℕ) (a w : ℕ) (bytes : Bytes s) (fits : a + w ≤ length s) where
  part_length : length (take w (drop a s)) ≡ w
  part_length = length-take-le w (drop a s) (omega (arith, length-drop a s))

  pub number-split : drop a s ≡ bytes_of w (number_at w s a) ++ drop (a + w) s
  number-split =
      let b : bytes_of w (number_at w s a) ≡ take w (drop a s) = rw part_length at (bytes_back (take w (drop a s)) (part_bytes_lem s a w bytes fits)) in
      sym (rw (b, ← (drop-drop w a s)) (take-append-drop w (drop a s)))

  pub number_fits : number_at w s a < 256 ^ w
  number_fits = rw part_length at (number-below (take w (drop a s)) (part_bytes_lem s a w bytes fits))

-- a number's bytes, wherever they stand, are read as that number
pub number-here : (a c : List ℕ) (w n at : ℕ) → length a ≡ at → n < 256 ^ w → number_at w (a ++ (bytes_of w n ++ c)) at ≡ n
number-here a c w n at e h =
    rw (drop_at a (bytes_of w n ++ c) at e) (rw (take_at (bytes_of w n) c w (length-bytes w n)) (number-back w n h))

pub number_step : (s : List ℕ) (a k : ℕ) → a < length s → number_at (suc k) s a ≡ get_or s a 0 + 256 * number_at k s (suc a)
unfolding number_of
number_step s a k h = rw (drop-cons s a 0 h) refl

pub number-one : (s : List ℕ) (a : ℕ) → a + 1 ≤ length s → number_at 1 s a ≡ get_or s a 0
unfolding number_of
number-one s a h = rw (number_step s a 0 (omega arith)) (omega arith)

pub number-pair : (s : List ℕ) (a : ℕ) → a + 2 ≤ length s → number_at 2 s a ≡ get_or s a 0 + 256 * get_or s (a + 1) 0
unfolding number_of
number-pair s a h = rw (number_step s a 1 (omega arith), number_step s (suc a) 0 (omega arith), add-one a) (omega arith)

-- two bytes and those after them
pub number-two : (s : List ℕ) (a j : ℕ) → a + 2 ≤ length s → number_at (suc (suc j)) s a ≡ number_at 2 s a + 65536 * number_at j s (a + 2)
number-two s a j h =
    let e : a + 2 ≡ suc (suc a) = omega arith in
    rw (number_step s a (suc j) (omega arith), number_step s (suc a) j (omega arith), number-pair s a h, add-one a, e) (omega arith)

pub below_word_lem : (k j : ℕ) → k ≤ j → 256 ^ k ≤ 256 ^ j
below_word_lem k j h = pow-le-pow_right {n = 256} (omega arith) {i = k} {j = j} (omega arith)
