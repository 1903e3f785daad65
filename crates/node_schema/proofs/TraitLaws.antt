-- The parts of traits words, judged all at once by their top bits.
use Rattle.std.proofs.Common.{◌≡◌, ℕ, ◌+◌, ◌*◌, ◌/◌, ◌%◌, ◌^◌, ◌<◌, ◌≤◌, max, true, ◌&&◌, eqb, ltb, leb, List, sym, ap, ◌∙◌, subst, ap₂, div-lt_iff_lt-mul, arith, pow_pos, ltb-true, lt-ltb, eq-eqb, eqb-true, le-leb, leb-true}
use native.Mathlib.Nat.{add-mul-div_left}
use lib.Bits.{bit_or, or_shr, or_step, or_comm, or_lt, or_add_and, and_le_r}
use Rattle.node_schema.specs.Rows.{word}
use Rattle.node_schema.specs.Layout.{half, traits_column}
use Rattle.node_schema.specs.Check.{traits_right, top_bits_clear, all_traits}
use Rattle.node_schema.proofs.BoolLaws.{both, left, right, same, in-turn}
use Rattle.node_schema.proofs.CheckLaws.{every-next}

pub record Traits (t : ℕ) : Type 0 where
  pub kind : t % 256 ≤ 4
  pub nullable : t / 256 % 256 ≤ 1
  pub read : t / 2 ^ 16 % 256 ≤ 4
  pub write : t / 2 ^ 24 ≤ 4

pub to-traits : (t : ℕ) → traits_right t ≡ true → Traits t
to-traits t h =
    let h1 = right (leb (t % 256) 4) _ h in
    let h2 = right (leb (t / 256 % 256) 1) _ h1 in
    record {
      kind = leb-true _ _ (left _ _ h);
      nullable = leb-true _ _ (left _ _ h1);
      read = leb-true _ _ (left _ _ h2);
      write = leb-true _ _ (right (leb (t / 2 ^ 16 % 256) 4) _ h2);
    }

pub from-traits : (t : ℕ) → Traits t → traits_right t ≡ true
from-traits t x =
    both _ _ (le-leb _ _ x.kind) (both _ _ (le-leb _ _ x.nullable) (both _ _ (le-leb _ _ x.read) (le-leb _ _ x.write)))

record Clear (x : ℕ) : Type 0 where
  pub top : x < 2 ^ 31
  pub third : x / 2 ^ 23 % 2 ≡ 0
  pub second : x / 2 ^ 15 % 2 ≡ 0
  pub lowest : x / 2 ^ 7 % 2 ≡ 0

to_clear : (x : ℕ) → top_bits_clear x ≡ true → Clear x
to_clear x h =
    let h1 = right (ltb x (2 ^ 31)) _ h in
    let h2 = right (eqb (x / 2 ^ 23 % 2) 0) _ h1 in
    record {
      top = ltb-true _ _ (left _ _ h);
      third = eqb-true _ _ (left _ _ h1);
      second = eqb-true _ _ (left _ _ h2);
      lowest = eqb-true _ _ (right (eqb (x / 2 ^ 15 % 2) 0) _ h2);
    }

from-clear : (x : ℕ) → Clear x → top_bits_clear x ≡ true
from-clear x c =
    both _ _ (lt-ltb _ _ c.top) (both _ _ (eq-eqb _ _ c.third) (both _ _ (eq-eqb _ _ c.second) (eq-eqb _ _ c.lowest)))

-- a bit of an OR
or-bit : (k a b : ℕ) → bit_or a b / 2 ^ k % 2 ≡ max (a / 2 ^ k % 2) (b / 2 ^ k % 2)
or-bit k a b = rw (or_shr a b k) (omega (arith, or_step (a / 2 ^ k) (b / 2 ^ k)))

or-clear : (a b : ℕ) → Clear a → Clear b → Clear (bit_or a b)
or-clear a b x y =
    record {
      top = or_lt 31 a b x.top y.top;
      third = omega (arith, or-bit 23 a b);
      second = omega (arith, or-bit 15 a b);
      lowest = omega (arith, or-bit 7 a b);
    }

clear-left : (a b : ℕ) → Clear (bit_or a b) → Clear a
clear-left a b x =
    let l : a ≤ bit_or a b = omega (arith, or_add_and a b, and_le_r a b) in
    record { top = omega arith; third = omega (arith, or-bit 23 a b); second = omega (arith, or-bit 15 a b); lowest = omega (arith, or-bit 7 a b) }

clear-right : (a b : ℕ) → Clear (bit_or a b) → Clear b
clear-right a b x = clear-left b a (subst Clear (or_comm a b) x)

pub or-both : (a b : ℕ) → top_bits_clear (bit_or a b) ≡ (top_bits_clear a && top_bits_clear b)
or-both a b =
    same _ _ (λ h. let x = to_clear _ h in both _ _ (from-clear a (clear-left a b x)) (from-clear b (clear-right a b x)))
    (λ h. from-clear _ (or-clear a b (to_clear a (left _ _ h)) (to_clear b (right (top_bits_clear a) _ h))))

-- the low k + 1 bits of a word, where the top one of them is clear, are below 2^k
low_part : (k s h : ℕ) → s < 2 ^ k * 2 → (s + 2 ^ k * (2 * h)) / 2 ^ k % 2 ≡ 0 → s < 2 ^ k
low_part k s h l e =
    let q : (s + 2 ^ k * (2 * h)) / 2 ^ k ≡ s / 2 ^ k + 2 * h = add-mul-div_left s (2 * h) (pow_pos k) in
    let e' : (s / 2 ^ k + 2 * h) % 2 ≡ 0 = rw q at e in
    let d : s / 2 ^ k < 2 = (div-lt_iff_lt-mul (pow_pos k)).1 (omega arith) in
    let z : s / 2 ^ k < 1 = omega arith in
    omega (arith, (div-lt_iff_lt-mul {x = s} {y = 1} (pow_pos k)).0 z)

-- four bytes whose top bits are clear are below 128 each
bytes-clear : (x k n r v : ℕ) → x ≡ k + 2 ^ 8 * n + 2 ^ 16 * r + 2 ^ 24 * v → k < 2 ^ 8 → n < 2 ^ 8 → r < 2 ^ 8 → Clear x → (k < 128) × (n < 128) × (r < 128) × (v < 128)
bytes-clear x k n r v e a b c s =
    let e7 : x ≡ k + 2 ^ 7 * (2 * (n + 2 ^ 8 * r + 2 ^ 16 * v)) = omega arith in
    let e15 : x ≡ (k + 2 ^ 8 * n) + 2 ^ 15 * (2 * (r + 2 ^ 8 * v)) = omega arith in
    let e23 : x ≡ (k + 2 ^ 8 * n + 2 ^ 16 * r) + 2 ^ 23 * (2 * v) = omega arith in
    let h7 : k < 2 ^ 7 = low_part 7 k (n + 2 ^ 8 * r + 2 ^ 16 * v) (omega arith) (rw e7 at s.lowest) in
    let h15 : k + 2 ^ 8 * n < 2 ^ 15 = low_part 15 _ (r + 2 ^ 8 * v) (omega arith) (rw e15 at s.second) in
    let h23 : k + 2 ^ 8 * n + 2 ^ 16 * r < 2 ^ 23 = low_part 23 _ v (omega arith) (rw e23 at s.third) in
    (omega arith, omega arith, omega arith, omega (arith, s.top))

clear-bytes : (x k n r v : ℕ) → x ≡ k + 2 ^ 8 * n + 2 ^ 16 * r + 2 ^ 24 * v → k < 128 → n < 128 → r < 128 → v < 128 → Clear x
clear-bytes x k n r v e a b c d = record { top = omega arith; third = omega arith; second = omega arith; lowest = omega arith }

-- 127 minus the highest value, for each part
abbrev margins : ℕ
margins = 123 + 2 ^ 8 * 126 + 2 ^ 16 * 123 + 2 ^ 24 * 123

module _ (t : ℕ) where
  whole : t ≡ t % 256 + 2 ^ 8 * (t / 256 % 256) + 2 ^ 16 * (t / 2 ^ 16 % 256) + 2 ^ 24 * (t / 2 ^ 24)
  whole = omega arith

  sum : t < half → (t + margins) % 2 ^ 64 ≡ (t % 256 + 123) + 2 ^ 8 * (t / 256 % 256 + 126) + 2 ^ 16 * (t / 2 ^ 16 % 256 + 123) + 2 ^ 24 * (t / 2 ^ 24 + 123)
  sum l = omega (arith, whole)

  clear-traits : Clear t → Clear ((t + margins) % 2 ^ 64) → Traits t
  clear-traits x y =
      let b = bytes-clear t (t % 256) (t / 256 % 256) (t / 2 ^ 16 % 256) (t / 2 ^ 24) whole (omega arith) (omega arith) (omega arith) x in
      let c =
      bytes-clear ((t + margins) % 2 ^ 64) (t % 256 + 123) (t / 256 % 256 + 126) (t / 2 ^ 16 % 256 + 123) (t / 2 ^ 24 + 123)
      (sum (omega (arith, x.top))) (omega (arith, b.0)) (omega (arith, b.1)) (omega (arith, b.2)) y in
      record { kind = omega (arith, c.0); nullable = omega (arith, c.1); read = omega (arith, c.2); write = omega (arith, c.3) }

  traits-clears : Traits t → Clear t × Clear ((t + margins) % 2 ^ 64)
  traits-clears x = (
    clear-bytes t (t % 256) (t / 256 % 256) (t / 2 ^ 16 % 256) (t / 2 ^ 24) whole
        (omega (arith, x.kind)) (omega (arith, x.nullable)) (omega (arith, x.read)) (omega (arith, x.write)),
    clear-bytes ((t + margins) % 2 ^ 64) (t % 256 + 123) (t / 256 % 256 + 126) (t / 2 ^ 16 % 256 + 123) (t / 2 ^ 24 + 123)
        (sum (omega (arith, whole, x.kind, x.nullable, x.read, x.write)))
        (omega (arith, x.kind)) (omega (arith, x.nullable)) (omega (arith, x.read)) (omega (arith, x.write)),
  )

  pub traits-clear : (top_bits_clear t && top_bits_clear ((t + margins) % 2 ^ 64)) ≡ traits_right t
  traits-clear =
      same _ _ (λ h. from-traits t (clear-traits (to_clear t (left _ _ h)) (to_clear _ (right (top_bits_clear t) _ h))))
      (λ h. let c = traits-clears (to-traits t h) in both _ _ (from-clear t c.0) (from-clear _ c.1))

-- a turn of the loop that joins the words of the column
pub traits-turn : (w : List ℕ) (i bits sums r : ℕ) → r ≡ (word w traits_column i + margins) % 2 ^ 64 → top_bits_clear (bit_or bits sums) ≡ all_traits w i → top_bits_clear (bit_or (bit_or bits (word w traits_column i)) (bit_or sums r)) ≡ all_traits w (i + 1)
traits-turn w i bits sums r e h =
    let t = word w traits_column i in
    or-both (bit_or bits t) (bit_or sums r)
    ∙ ap₂ ◌&&◌ (or-both bits t) (or-both sums r)
    ∙ in-turn (top_bits_clear bits) (top_bits_clear t) (top_bits_clear sums) (top_bits_clear r)
    ∙ ap₂ ◌&&◌ (sym (or-both bits sums) ∙ h) (ap (λ (k : ℕ). top_bits_clear t && top_bits_clear k) e ∙ traits-clear t)
    ∙ sym (every-next (λ k. traits_right (word w traits_column k)) i)
