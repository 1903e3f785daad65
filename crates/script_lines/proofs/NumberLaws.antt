-- Numbers of a line, from what their digits say.
use Rattle.std.specs.Prelude.{Some, None, Option}
use mathlib.Core.Path.{◌≡◌, refl, sym, ap}
use mathlib.Core.List.{List, [], ◌∷◌}
use mathlib.Core.Bool.{false}
use Prim.Native.Nat.{ℕ, suc, ◌+◌, ◌*◌, ◌-◌, ◌^◌, ◌%◌, ◌<◌, ◌≤◌}
use native.Mathlib.Nat.{pow-suc, pow-le-pow_right}
use native.Mathlib.Numerals.{add-one}
use native.Mathlib.Omega.{arith}
use borrow.Author.Tests.{eq-eqb, ne_eqb}
use lib.Dec.{eqb}
use lib.ListN.{length, take, drop, get_or, length-take, length-drop}
use lib.Seq.{drop-cons, drop-length, take-nil, drop-drop, get_or-take, get_or-drop}
use Rattle.script_lines.specs.declared.Scan.{Scan}
use Rattle.script_lines.specs.declared.number.Number.{Number as NumberRead}
use Rattle.script_lines.specs.Numbers.{decimal_of, hex_digit, hex_from, read_as, unread_at, at_most, is_byte, negated_of, signed_of}

pub byte-none : (w : List ℕ) (b : ℕ) → (length w ≡ 1 → ⊥) → false ≡ is_byte w b
byte-none [] b h = refl
byte-none (c ∷ []) b h = absurd (h refl)
byte-none (c ∷ d ∷ w) b h = refl

pub byte_one : (w : List ℕ) (b : ℕ) → length w ≡ 1 → eqb (get_or w 0 0) b ≡ is_byte w b
byte_one [] b h = absurd (omega arith)
byte_one (c ∷ []) b h = refl
byte_one (c ∷ d ∷ w) b h = absurd (omega arith)

pub most-unread : (highest : ℕ) (next : Scan) (d : (Option ℕ)) → ((n : ℕ) → d ≡ Some n → ⊥) → unread_at next ≡ at_most highest next d
most-unread highest next (Some n) h = absurd (h n refl)
most-unread highest next None h = refl

-- one step of reading hex digits
module _ (w : List ℕ) (n i : ℕ) (h : i < length w) where
  pub hex-none : hex_digit (get_or w i 0) ≡ None → hex_from n (drop i w) ≡ None
  unfolding hex_from
  hex-none b = rw (drop-cons w i 0 h, b) refl

  pub hex-more : (d : ℕ) → hex_digit (get_or w i 0) ≡ Some d → hex_from n (drop i w) ≡ hex_from (n * 16 + d) (drop (i + 1) w)
  unfolding hex_from
  hex-more d b = rw (drop-cons w i 0 h, add-one, b) refl

pub hex-done : (w : List ℕ) (n i : ℕ) → i ≡ length w → hex_from n (drop i w) ≡ Some n
unfolding hex_from
hex-done w n i e = rw (e, drop-length)

-- a number of i digits, below the eighth, has 28 bits; and one digit more
pub digits-fit : (n i : ℕ) → n < 16 ^ i → i < 8 → n < 268435456
digits-fit n i h k = let l : i ≤ 7 = omega arith in let p : 16 ^ i ≤ 16 ^ 7 = pow-le-pow_right (omega arith) l in omega arith

pub digits-grow : (n i d : ℕ) → n < 16 ^ i → d < 16 → n * 16 + d < 16 ^ (i + 1)
digits-grow n i d h k = rw (add-one, pow-suc) (omega arith)

-- a word that starts with a minus sign, and one that does not
pub signed-minus : (next : Scan) (w : List ℕ) → 0 < length w → get_or w 0 0 ≡ 45 → signed_of next w ≡ negated_of (at_most (2 ^ 63) next (decimal_of (drop 1 w)))
unfolding signed_of
signed-minus next [] h e = absurd (omega arith)
signed-minus next (c ∷ cs) h e = rw (eq-eqb c 45 e)

pub signed-plain : (next : Scan) (w : List ℕ) → (0 < length w → get_or w 0 0 ≡ 45 → ⊥) → signed_of next w ≡ at_most (2 ^ 63 - 1) next (decimal_of w)
unfolding signed_of
signed-plain next [] h = refl
signed-plain next (c ∷ cs) h = rw (ne_eqb c 45 (h (omega arith)))

-- zero is its own negative
pub negated-zero : (n : NumberRead) → n.value ≡ 0 → n ≡ negated_of n
negated-zero n e =
    let v : n.value ≡ (2 ^ 64 - n.value) % 2 ^ 64 = rw e refl in
    ap (λ (m : ℕ). read_as m n.next) v

pub negated-some : (n : NumberRead) → (n.value ≡ 0 → ⊥) → n.value < 2 ^ 64 → read_as (2 ^ 64 - 1 - n.value + 1) n.next ≡ negated_of n
negated-some n h k =
    let v : 2 ^ 64 - 1 - n.value + 1 ≡ (2 ^ 64 - n.value) % 2 ^ 64 = omega arith in
    ap (λ (m : ℕ). read_as m n.next) v

tail-take : (n : ℕ) (l : List ℕ) → drop 1 (take (suc n) l) ≡ take n (drop 1 l)
tail-take n [] = sym (take-nil n)
tail-take n (x ∷ l) = refl

-- a word of one byte at least: its first byte, and the rest
module _ (line : List ℕ) (start end : ℕ) (h : start < end) (k : end ≤ length line) where
  pub word_some : 0 < length (take (end - start) (drop start line))
  word_some = simp (length-take, length-drop) (omega arith)

  pub word_first : get_or (take (end - start) (drop start line)) 0 0 ≡ get_or line start 0
  word_first = rw (get_or-take (end - start) (drop start line) 0 0 (omega arith), get_or-drop start line 0 0) (ap (λ (i : ℕ). get_or line i 0) (omega arith))

  pub word-rest : drop 1 (take (end - start) (drop start line)) ≡ take (end - (start + 1)) (drop (start + 1) line)
  word-rest =
      let e : end - start ≡ suc (end - (start + 1)) = omega arith in
      rw (e, tail-take, drop-drop)

pub word-empty : (line : List ℕ) (start end : ℕ) → end ≤ start → 0 < length (take (end - start) (drop start line)) → ⊥
word-empty line start end h k = omega (arith, length-take (end - start) (drop start line))
