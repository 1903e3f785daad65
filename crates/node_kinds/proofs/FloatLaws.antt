-- Laws of floats by their bits: finite patterns, NaN out of every range, a schema's three values.
use mathlib.Core.Path.{◌≡◌, refl, sym, ◌∙◌}
use mathlib.Core.Bool.{Bool, true, false, not, ◌&&◌, cond}
use Prim.Native.Nat.{ℕ, zero, suc, ◌+◌, ◌/◌, ◌%◌}
use lib.Dec.{leb, eqb}
use lib.Ieee.{Float, nan, inf, fin, binary32, odd, of_fields, of_bits, nan_bits, is_nan, lt, eq, le}
use lib.Ieee.Bits.{nan_bits_is}
use Rattle.node_kinds.specs.declared.Range.{Range}
use Rattle.node_kinds.specs.Float.{float32, finite, float_of, range_of, in_range, in_order, range_ok}

-- ---- finite: the exponent's field is not all ones

odd-finite : (d : ℕ) (s : Bool) (q k l : ℕ) → finite (odd d s q k l) ≡ true
unfolding odd
odd-finite d s zero k l = refl
odd-finite d s (suc q) k l = refl

cond-finite : (a b s : Bool) (v : Float) → finite v ≡ true → finite (cond a (cond b (inf s) nan) v) ≡ not a
cond-finite true true s v h = refl
cond-finite true false s v h = refl
cond-finite false b s v h = h

fields-finite : (s : Bool) (x t : ℕ) → finite (of_fields binary32 s x t) ≡ not (eqb x 255)
unfolding of_fields
fields-finite s zero t = odd-finite 24 s t 0 149
fields-finite s (suc x) t = cond-finite (eqb (suc x) 255) (eqb t 0) s (odd 24 s (8388608 + t) x 149) (odd-finite 24 s (8388608 + t) x 149)

pub finite-is : (n : ℕ) → finite (float32 n) ≡ not (eqb (n % 2147483648 / 8388608) 255)
unfolding of_bits
finite-is n = fields-finite (leb 2147483648 n) (n % 2147483648 / 8388608) (n % 8388608)

-- ---- NaN

finite_number : (v : Float) → finite v ≡ true → is_nan v ≡ false
unfolding is_nan
finite_number nan h = sym h
finite_number (inf s) h = refl
finite_number (fin s m e) h = refl

-- a pattern that is no NaN's is the float that the code computes with
pub float_of-number : (n : ℕ) → nan_bits binary32 n ≡ false → float_of n ≡ float32 n
unfolding float_of
float_of-number n h = rw h

pub float_of-finite : (n : ℕ) → finite (float32 n) ≡ true → float_of n ≡ float32 n
float_of-finite n h = float_of-number n (nan_bits_is binary32 n ∙ finite_number (float32 n) h)

le-nan : (x : Float) → le x nan ≡ false
unfolding le lt eq
le-nan nan = refl
le-nan (inf s) = refl
le-nan (fin s m e) = refl

nan-outside : (r : Range) (v : Float) → is_nan v ≡ true → (le r.low v && le v r.high) ≡ false
unfolding is_nan
nan-outside r nan h = rw (le-nan r.low)
nan-outside r (inf s) h = cc
nan-outside r (fin s m e) h = cc

-- a NaN is never in range (RULES 2.9)
pub nan-range : (r : Range) (n : ℕ) → nan_bits binary32 n ≡ true → in_range r n ≡ false
unfolding in_range
nan-range r n h = nan-outside r (float32 n) (sym (nan_bits_is binary32 n) ∙ h)

-- ---- a schema's three values

-- where all three are finite, the check of the order decides
pub finite-order : (low high first : ℕ) → finite (float32 low) ≡ true → finite (float32 high) ≡ true → finite (float32 first) ≡ true → (r : Range) → r ≡ range_of low high first → in_order r.low r.high r.first ≡ range_ok low high first
unfolding range_of range_ok
finite-order low high first l h f r e = rw (e, float_of-finite low l, float_of-finite high h, float_of-finite first f, l, h, f)

-- a schema's first value is in range
pub first-in-range : (low high first : ℕ) → range_ok low high first ≡ true → in_range (range_of low high first) first ≡ true
unfolding range_ok range_of in_range
first-in-range low high first h = go (finite (float32 low)) (finite (float32 high)) (finite (float32 first)) refl refl refl h
  where
    go : (l m f : Bool) → finite (float32 low) ≡ l → finite (float32 high) ≡ m → finite (float32 first) ≡ f → (l && (m && (f && in_order (float32 low) (float32 high) (float32 first)))) ≡ true → (le (float_of low) (float32 first) && le (float32 first) (float_of high)) ≡ true
    go true true true p q r e = rw (float_of-finite low p, float_of-finite high q) e
    go true true false p q r e = cc
    go true false f p q r e = cc
    go false m f p q r e = cc

-- between finite limits is nothing but what is finite
finite-between : (l v h : Float) → finite l ≡ true → finite h ≡ true → finite v ≡ false → (le l v && le v h) ≡ false
unfolding le lt eq
finite-between l nan h p q n = rw (le-nan l)
finite-between nan (inf s) h p q n = cc
finite-between (inf t) (inf s) h p q n = cc
finite-between (fin t m e) (inf true) h p q n = refl
finite-between (fin t m e) (inf false) nan p q n = cc
finite-between (fin t m e) (inf false) (inf u) p q n = cc
finite-between (fin t m e) (inf false) (fin u k d) p q n = refl
finite-between l (fin s m e) h p q n = cc

pub infinite-range : (low high first held : ℕ) → range_ok low high first ≡ true → finite (float32 held) ≡ false → in_range (range_of low high first) held ≡ false
unfolding range_ok range_of in_range
infinite-range low high first held h n = go (finite (float32 low)) (finite (float32 high)) refl refl h
  where
    go : (l m : Bool) → finite (float32 low) ≡ l → finite (float32 high) ≡ m → (l && (m && (finite (float32 first) && in_order (float32 low) (float32 high) (float32 first)))) ≡ true → (le (float_of low) (float32 held) && le (float32 held) (float_of high)) ≡ false
    go true true p q e = rw (float_of-finite low p, float_of-finite high q) (finite-between (float32 low) (float32 held) (float32 high) p q n)
    go true false p q e = cc
    go false m p q e = cc
