-- Laws of bytes stored in a buffer.
use mathlib.Core.Path.{◌≡◌, refl, ap, ◌∙◌}
use mathlib.Core.List.{List, [], ◌∷◌, ◌++◌}
use Prim.Native.Nat.{ℕ, suc, ◌+◌, ◌-◌, ◌/◌, ◌%◌, ◌≤◌, ◌<◌}
use native.Mathlib.Nat.{add-zero}
use native.Mathlib.Numerals.{add-one}
use native.Mathlib.Omega.{arith}
use lib.ListN.{length, get_or, take, drop, set, length-append, length-set}
use lib.Seq.{drop-cons, set-set, set_comm, get_or-set_same, get_or-set_other, take-set-le, drop-set-lt, drop-set-add}
use Rattle.base_octets.specs.Number.{bytes_of}
use Rattle.base_octets.specs.Store.{store, Stored}

pub length-store : (l : List ℕ) (at : ℕ) (bs : List ℕ) → length (store l at bs) ≡ length l
unfolding store
length-store l at [] = refl
length-store l at (b ∷ bs) = length-store (set l at b) (suc at) bs ∙ length-set l at b

pub store-before : (l : List ℕ) (at : ℕ) (bs : List ℕ) (k : ℕ) → k < at → get_or (store l at bs) k 0 ≡ get_or l k 0
unfolding store
store-before l at [] k h = refl
store-before l at (b ∷ bs) k h = store-before (set l at b) (suc at) bs k (omega arith) ∙ get_or-set_other l at k b 0 (λ e. omega arith)

-- a part before or after what is stored stays as it was

pub part-after : (l : List ℕ) (at : ℕ) (bs : List ℕ) (p n : ℕ) → at + length bs ≤ p → take n (drop p (store l at bs)) ≡ take n (drop p l)
unfolding store
part-after l at [] p n h = refl
part-after l at (b ∷ bs) p n h =
    part-after (set l at b) (suc at) bs p n (omega arith) ∙ ap (take n) (drop-set-lt p l at b (omega arith))

pub part-before : (l : List ℕ) (at : ℕ) (bs : List ℕ) (p n : ℕ) → p + n ≤ at → take n (drop p (store l at bs)) ≡ take n (drop p l)
unfolding store
part-before l at [] p n h = refl
part-before l at (b ∷ bs) p n h =
    let e : at ≡ p + (at - p) = omega arith in
    part-before (set l at b) (suc at) bs p n (omega arith)
    ∙ ap (λ (k : ℕ). take n (drop p (set l k b))) e
    ∙ ap (take n) (drop-set-add p l (at - p) b)
    ∙ take-set-le n (drop p l) (at - p) b (omega arith)

-- what was stored stands there
pub store-back : (l : List ℕ) (at : ℕ) (bs : List ℕ) → at + length bs ≤ length l → take (length bs) (drop at (store l at bs)) ≡ bs
unfolding store
store-back l at [] h = refl
store-back l at (b ∷ bs) h =
    let m : List ℕ = store (set l at b) (suc at) bs in
    let len : length m ≡ length l = length-store (set l at b) (suc at) bs ∙ length-set l at b in
    let g : get_or m at 0 ≡ b = store-before (set l at b) (suc at) bs at (omega arith) ∙ get_or-set_same l at b 0 (omega arith) in
    rw (drop-cons m at 0 (omega arith)) (rw g (ap (λ (r : List ℕ). b ∷ r) (store-back (set l at b) (suc at) bs (omega (arith, length-set l at b)))))

-- two stores, one right after the other, are one
pub store-store : (l : List ℕ) (at : ℕ) (a b : List ℕ) → store (store l at a) (at + length a) b ≡ store l at (a ++ b)
unfolding store
store-store l at [] b = ap (λ (p : ℕ). store l p b) (add-zero at)
store-store l at (x ∷ a) b =
    let e : at + suc (length a) ≡ suc at + length a = omega arith in
    ap (λ (p : ℕ). store (store (set l at x) (suc at) a) p b) e ∙ store-store (set l at x) (suc at) a b

store-set : (l : List ℕ) (i j y : ℕ) (a : List ℕ) → i < j → set (store l j a) i y ≡ store (set l i y) j a
unfolding store
store-set l i j y [] h = refl
store-set l i j y (z ∷ a) h =
    store-set (set l j z) i (suc j) y a (omega arith)
    ∙ ap (λ (m : List ℕ). store m (suc j) a) (set_comm l j i z y (λ e. omega arith))

-- a store over another that is no longer is as if the other had not been
pub store-over : (l : List ℕ) (at : ℕ) (a b : List ℕ) → length a ≤ length b → store (store l at a) at b ≡ store l at b
unfolding store
store-over l at [] b h = refl
store-over l at (x ∷ a) [] h = absurd (omega arith)
store-over l at (x ∷ a) (y ∷ b) h =
    ap (λ (m : List ℕ). store m (suc at) b) (store-set (set l at x) at (suc at) y a (omega arith) ∙ ap (λ (m : List ℕ). store m (suc at) a) (set-set l at x y))
    ∙ store-over (set l at y) (suc at) a b (omega arith)

-- a run of writers is one writer
pub then : {o : List ℕ} {at : ℕ} {a o₁ : List ℕ} {p : ℕ} {b o₂ : List ℕ} {q : ℕ} → Stored o at a o₁ p → Stored o₁ p b o₂ q → Stored o at (a ++ b) o₂ q
then {o} {at} {a} {o₁} {p} {b} {o₂} {q} u v =
    let e : o₂ ≡ store (store o at a) (at + length a) b = v.content ∙ rw (u.content, u.place) in
    record {
      content = e ∙ store-store o at a b;
      place = omega (arith, length-append a b, u.place, v.place);
    }

pub same_length : {o : List ℕ} {at : ℕ} {a o₁ : List ℕ} {p : ℕ} → Stored o at a o₁ p → length o₁ ≡ length o
same_length {o} {at} {a} u = ap length u.content ∙ length-store o at a

-- what is left after a writer has room for the rest
pub room : {o : List ℕ} {at : ℕ} {a o₁ : List ℕ} {p : ℕ} (b : List ℕ) → Stored o at a o₁ p → at + length (a ++ b) ≤ length o → p + length b ≤ length o₁
room {o} {at} {a} b u h = omega (arith, length-append a b, u.place, same_length u, h)

pub fore : (at : ℕ) {n : ℕ} (a b : List ℕ) → at + length (a ++ b) ≤ n → at + length a ≤ n
fore at a b h = omega (arith, length-append a b, h)

-- turns of the loops that store a number and a slice
pub number-turn : (b : List ℕ) (at w i x : ℕ) → i < w → store b (at + i) (bytes_of (w - i) x) ≡ store (set b (at + i) (x % 256)) (at + (i + 1)) (bytes_of (w - (i + 1)) (x / 256))
unfolding store bytes_of
number-turn b at w i x h =
    let e1 : w - i ≡ suc (w - (i + 1)) = omega arith in
    let e2 : at + (i + 1) ≡ suc (at + i) = omega arith in
    rw (e1, e2) refl

pub slice-turn : (b src : List ℕ) (at i : ℕ) → i < length src → store b (at + i) (drop i src) ≡ store (set b (at + i) (get_or src i 0)) (at + (i + 1)) (drop (i + 1) src)
unfolding store
slice-turn b src at i h =
    let e : at + (i + 1) ≡ suc (at + i) = omega arith in
    rw (drop-cons src i 0 h, e, add-one)

pub add-two : (n : ℕ) → n + 2 ≡ suc (suc n)
add-two n = omega arith
