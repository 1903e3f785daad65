-- Well-formed bytes are the encodings of scalar values, and of nothing else: Table 3-7 is Table 3-6 over D76.
use mathlib.Core.Path.{◌≡◌, refl, ap, ◌∙◌}
use mathlib.Core.Bool.{true}
use mathlib.Core.Logic.{inl, inr, ⊎_elim, ◌↔◌}
use mathlib.Core.List.{List, [], ◌∷◌, ◌++◌}
use Prim.Native.Nat.{ℕ, ◌+◌, ◌-◌, ◌*◌, ◌/◌, ◌%◌, ◌≤◌, ◌<◌}
use native.Mathlib.Omega.{arith}
use borrow.Author.Tests.{lt-ltb, le-ltb}
use Rattle.base_utf8.specs.WellFormed.{Range, within, table, trailing, completes, well_formed}
use Rattle.base_utf8.specs.Scalar.{Scalar, Scalars, encode, joined, Spelled}
use Rattle.base_utf8.proofs.Lines.{and_l, and_r, split, inside, low, high, line, by-line}

-- ---- what is well formed is spelled

-- the bytes after a first byte, in these ranges, and then spelled bytes
abbrev Open : List Range → List ℕ → Type 0
Open [] s = Spelled s
Open (r ∷ rs) [] = ⊥
Open (r ∷ rs) (b ∷ s) = (within r b ≡ true) × Open rs s

-- one scalar value more
spell : (n : ℕ) (bs s : List ℕ) → Scalar n → encode n ≡ bs → Spelled s → Spelled (bs ++ s)
unfolding joined
spell n bs s ok e p = (n ∷ p.0, (ok, p.1), rw (e, p.2))

encode_one : (n : ℕ) → n < 0x80 → encode n ≡ n ∷ []
unfolding encode
encode_one n h = rw (lt-ltb n 0x80 h)

encode-two : (n a b : ℕ) → n + 0x3080 ≡ a * 64 + b → 0x80 ≤ n → n < 0x800 → 0x80 ≤ b → b ≤ 0xBF → encode n ≡ a ∷ b ∷ []
unfolding encode
encode-two n a b e l h lb hb =
    let p : 0xC0 + n / 64 ≡ a = omega arith in
    let q : 0x80 + n % 64 ≡ b = omega arith in
    rw (le-ltb n 0x80 l, lt-ltb n 0x800 h, p, q)

encode-three : (n a b c : ℕ) → n + 0xE2080 ≡ a * 4096 + b * 64 + c → 0x800 ≤ n → n < 0x10000 → 0x80 ≤ b → b ≤ 0xBF → 0x80 ≤ c → c ≤ 0xBF → encode n ≡ a ∷ b ∷ c ∷ []
unfolding encode
encode-three n a b c e l h lb hb lc hc =
    let p : 0xE0 + n / 4096 ≡ a = omega arith in
    let q : 0x80 + n / 64 % 64 ≡ b = omega arith in
    let t : 0x80 + n % 64 ≡ c = omega arith in
    rw (le-ltb n 0x80 (omega arith), le-ltb n 0x800 l, lt-ltb n 0x10000 h, p, q, t)

encode-four : (n a b c d : ℕ) → n + 0x3C82080 ≡ a * 262144 + b * 4096 + c * 64 + d → 0x10000 ≤ n → 0x80 ≤ b → b ≤ 0xBF → 0x80 ≤ c → c ≤ 0xBF → 0x80 ≤ d → d ≤ 0xBF → encode n ≡ a ∷ b ∷ c ∷ d ∷ []
unfolding encode
encode-four n a b c d e l lb hb lc hc ld hd =
    let p : 0xF0 + n / 262144 ≡ a = omega arith in
    let q : 0x80 + n / 4096 % 64 ≡ b = omega arith in
    let t : 0x80 + n / 64 % 64 ≡ c = omega arith in
    let u : 0x80 + n % 64 ≡ d = omega arith in
    rw (le-ltb n 0x80 (omega arith), le-ltb n 0x800 (omega arith), le-ltb n 0x10000 l, p, q, t, u)

-- no byte is in the range of a first byte that no line has
none : (a : ℕ) (s : List ℕ) → Open ((1, 0) ∷ []) s → Spelled (a ∷ s)
none a [] o = absurd o
none a (b ∷ s) o = absurd (omega (arith, low (1, 0) b o.0, high (1, 0) b o.0))

-- the scalar value of bytes that are in a line's ranges, where f is the first's and r the second's
one : (a : ℕ) (s : List ℕ) → within (0x00, 0x7F) a ≡ true → Spelled s → Spelled (a ∷ s)
one a s w p =
    let h = high (0x00, 0x7F) a w in
    spell a (a ∷ []) s (inl (omega arith)) (encode_one a (omega arith)) p

two : (a : ℕ) (s : List ℕ) → within (0xC2, 0xDF) a ≡ true → Open ((0x80, 0xBF) ∷ []) s → Spelled (a ∷ s)
two a [] w o = absurd o
two a (b ∷ s) w o =
    let l = low (0xC2, 0xDF) a w in
    let h = high (0xC2, 0xDF) a w in
    let lb = low (0x80, 0xBF) b o.0 in
    let hb = high (0x80, 0xBF) b o.0 in
    let n : ℕ = a * 64 + b - 0x3080 in
    spell n (a ∷ b ∷ []) s (inl (omega arith)) (encode-two n a b (omega arith) (omega arith) (omega arith) lb hb) o.1

-- the value is no surrogate
abbrev Clear : Range → Range → Type 0
Clear f r = (n a b c : ℕ) → n + 0xE2080 ≡ a * 4096 + b * 64 + c → f.0 ≤ a → a ≤ f.1 → r.0 ≤ b → b ≤ r.1 → 0x80 ≤ c → c ≤ 0xBF → Scalar n

three : (a : ℕ) (f r : Range) (s : List ℕ) → (f.1 ≤ 0xEF) × (0x80 ≤ r.0) × (r.1 ≤ 0xBF) × (0xE0 * 64 + 0xA0 ≤ f.0 * 64 + r.0) → Clear f r → within f a ≡ true → Open (r ∷ (0x80, 0xBF) ∷ []) s → Spelled (a ∷ s)
three a f r [] k m w o = absurd o
three a f r (b ∷ []) k m w o = absurd o.1
three a f r (b ∷ c ∷ s) k m w o =
    let l = low f a w in
    let h = high f a w in
    let lb = low r b o.0 in
    let hb = high r b o.0 in
    let lc = low (0x80, 0xBF) c o.1.0 in
    let hc = high (0x80, 0xBF) c o.1.0 in
    let n : ℕ = a * 4096 + b * 64 + c - 0xE2080 in
    let e : n + 0xE2080 ≡ a * 4096 + b * 64 + c = omega arith in
    spell n (a ∷ b ∷ c ∷ []) s (m n a b c e l h lb hb lc hc) (encode-three n a b c e (omega arith) (omega arith) (omega arith) (omega arith) lc hc) o.1.1

four : (a : ℕ) (f r : Range) (s : List ℕ) → (0x80 ≤ r.0) × (r.1 ≤ 0xBF) × (0xF0 * 64 + 0x90 ≤ f.0 * 64 + r.0) × (f.1 * 64 + r.1 ≤ 0xF4 * 64 + 0x8F) → within f a ≡ true → Open (r ∷ (0x80, 0xBF) ∷ (0x80, 0xBF) ∷ []) s → Spelled (a ∷ s)
four a f r [] k w o = absurd o
four a f r (b ∷ []) k w o = absurd o.1
four a f r (b ∷ c ∷ []) k w o = absurd o.1.1
four a f r (b ∷ c ∷ d ∷ s) k w o =
    let l = low f a w in
    let h = high f a w in
    let lb = low r b o.0 in
    let hb = high r b o.0 in
    let lc = low (0x80, 0xBF) c o.1.0 in
    let hc = high (0x80, 0xBF) c o.1.0 in
    let ld = low (0x80, 0xBF) d o.1.1.0 in
    let hd = high (0x80, 0xBF) d o.1.1.0 in
    let n : ℕ = a * 262144 + b * 4096 + c * 64 + d - 0x3C82080 in
    spell n (a ∷ b ∷ c ∷ d ∷ []) s (inr (omega arith, omega arith)) (encode-four n a b c d (omega arith) (omega arith) (omega arith) (omega arith) lc hc ld hd) o.1.1.1

-- line by line
close : (a : ℕ) (s : List ℕ) → Open (trailing a) s → Spelled (a ∷ s)
unfolding trailing table
close a s =
    by-line (λ rs. Open rs s → Spelled (a ∷ s)) a table (
      one a s,
      (
        two a s,
        (
          three a (0xE0, 0xE0) (0xA0, 0xBF) s (omega arith) (λ n a b c e l h lb hb lc hc. inl (omega arith)),
          (
            three a (0xE1, 0xEC) (0x80, 0xBF) s (omega arith) (λ n a b c e l h lb hb lc hc. inl (omega arith)),
            (
              three a (0xED, 0xED) (0x80, 0x9F) s (omega arith) (λ n a b c e l h lb hb lc hc. inl (omega arith)),
              (
                three a (0xEE, 0xEF) (0x80, 0xBF) s (omega arith) (λ n a b c e l h lb hb lc hc. inr (omega arith)),
                (
                  four a (0xF0, 0xF0) (0x90, 0xBF) s (omega arith),
                  (
                    four a (0xF1, 0xF3) (0x80, 0xBF) s (omega arith),
                    (
                      four a (0xF4, 0xF4) (0x80, 0x8F) s (omega arith),
                      none a s,
                    ),
                  ),
                ),
              ),
            ),
          ),
        ),
      ),
    )

opened : (rs : List Range) (s : List ℕ) → completes rs s ≡ true → Open rs s
unfolding completes joined
opened [] [] h = ([], tt, refl)
opened [] (a ∷ s) h = close a s (opened (trailing a) s h)
opened (r ∷ rs) [] h = let z : ◌≡◌ {A = ℕ} 0 1 = cc in absurd (omega arith)
opened (r ∷ rs) (b ∷ s) h = (and_l (within r b) (completes rs s) h, opened rs s (and_r (within r b) (completes rs s) h))

-- WELL-FORMED BYTES ARE SPELLED: no overlong form, no surrogate, nothing past 10FFFF
pub spelled : (s : List ℕ) → well_formed s ≡ true → Spelled s
unfolding well_formed
spelled s h = opened [] s h

-- ---- what is spelled is well formed

-- a byte in each of these ranges
abbrev Exact : List Range → List ℕ → Type 0
Exact [] [] = Unit {0}
Exact [] (b ∷ p) = ⊥
Exact (r ∷ rs) [] = ⊥
Exact (r ∷ rs) (b ∷ p) = (r.0 ≤ b) × (b ≤ r.1) × Exact rs p

through : (rs : List Range) (p t : List ℕ) → Exact rs p → completes rs (p ++ t) ≡ completes [] t
unfolding completes
through [] [] t x = refl
through [] (b ∷ p) t x = absurd x
through (r ∷ rs) [] t x = absurd x
through (r ∷ rs) (b ∷ p) t x = rw (inside r b x.0 x.1) (through rs p t x.2)

-- the encoding of a scalar value is passed over
abbrev Passed : ℕ → List ℕ → Type 0
Passed n t = completes [] (encode n ++ t) ≡ completes [] t

module _ (n : ℕ) (t : List ℕ) where
  pass : (a : ℕ) (p : List ℕ) (rs : List Range) → encode n ≡ a ∷ p → trailing a ≡ rs → Exact rs p → Passed n t
  unfolding completes
  pass a p rs e f x =
      ap (λ (l : List ℕ). completes [] (l ++ t)) e ∙ ap (λ (l : List Range). completes l (p ++ t)) f ∙ through rs p t x

  pass-one : n < 0x80 → Passed n t
  unfolding table
  pass-one h = pass n [] [] (encode_one n h) (line 0 n refl (omega arith) (omega arith)) tt

  pass-two : 0x80 ≤ n → n < 0x800 → Passed n t
  unfolding table
  pass-two l h =
      let a : ℕ = 0xC0 + n / 64 in
      let b : ℕ = 0x80 + n % 64 in
      pass a (b ∷ []) ((0x80, 0xBF) ∷ []) (encode-two n a b (omega arith) l h (omega arith) (omega arith)) (line 1 a refl (omega arith) (omega arith)) (omega arith)

  pass-three : (r : Range) → 0x800 ≤ n → n < 0x10000 → trailing (0xE0 + n / 4096) ≡ r ∷ (0x80, 0xBF) ∷ [] → (r.0 ≤ 0x80 + n / 64 % 64) × (0x80 + n / 64 % 64 ≤ r.1) → Passed n t
  pass-three r l h e w =
      let a : ℕ = 0xE0 + n / 4096 in
      let b : ℕ = 0x80 + n / 64 % 64 in
      let c : ℕ = 0x80 + n % 64 in
      pass a (b ∷ c ∷ []) (r ∷ (0x80, 0xBF) ∷ []) (encode-three n a b c (omega arith) l h (omega arith) (omega arith) (omega arith) (omega arith)) e (w.0, w.1, omega arith)

  pass-four : (r : Range) → 0x10000 ≤ n → trailing (0xF0 + n / 262144) ≡ r ∷ (0x80, 0xBF) ∷ (0x80, 0xBF) ∷ [] → (r.0 ≤ 0x80 + n / 4096 % 64) × (0x80 + n / 4096 % 64 ≤ r.1) → Passed n t
  pass-four r l e w =
      let a : ℕ = 0xF0 + n / 262144 in
      let b : ℕ = 0x80 + n / 4096 % 64 in
      let c : ℕ = 0x80 + n / 64 % 64 in
      let d : ℕ = 0x80 + n % 64 in
      pass a (b ∷ c ∷ d ∷ []) (r ∷ (0x80, 0xBF) ∷ (0x80, 0xBF) ∷ []) (encode-four n a b c d (omega arith) l (omega arith) (omega arith) (omega arith) (omega arith) (omega arith) (omega arith)) e (w.0, w.1, omega arith)

  passed : Scalar n → Passed n t
  unfolding table
  passed q =
      let a : ℕ = 0xE0 + n / 4096 in
      let d : ℕ = 0xF0 + n / 262144 in
      split n 0x80 pass-one (λ l1.
      split n 0x800 (pass-two l1) (λ l2.
      split n 0x1000 (λ h. pass-three (0xA0, 0xBF) l2 (omega arith) (line 2 a refl (omega arith) (omega arith)) (omega arith)) (λ l3.
      split n 0xD000 (λ h. pass-three (0x80, 0xBF) l2 (omega arith) (line 3 a refl (omega arith) (omega arith)) (omega arith)) (λ l4.
      ⊎_elim (λ h. pass-three (0x80, 0x9F) l2 (omega arith) (line 4 a refl (omega arith) (omega arith)) (omega arith)) (λ s.
      split n 0x10000 (λ h. pass-three (0x80, 0xBF) l2 h (line 5 a refl (omega arith) (omega arith)) (omega arith)) (λ l5.
      split n 0x40000 (λ h. pass-four (0x90, 0xBF) l5 (line 6 d refl (omega arith) (omega arith)) (omega arith)) (λ l6.
      split n 0x100000 (λ h. pass-four (0x80, 0xBF) l5 (line 7 d refl (omega arith) (omega arith)) (omega arith)) (λ l7.
      pass-four (0x80, 0x8F) l5 (line 8 d refl (omega arith) (omega arith)) (omega arith))))) q))))

joined-formed : (ns : List ℕ) → Scalars ns → completes [] (joined ns) ≡ true
unfolding completes joined
joined-formed [] ok = refl
joined-formed (n ∷ ns) ok = passed n (joined ns) ok.0 ∙ joined-formed ns ok.1

-- SPELLED BYTES ARE WELL FORMED
pub well-formed : (s : List ℕ) → Spelled s → well_formed s ≡ true
unfolding well_formed
well-formed s p = rw p.2 at (joined-formed p.0 p.1)

-- UTF-8: well formed exactly if the bytes are the encodings of some scalar values
pub exactly : (s : List ℕ) → well_formed s ≡ true ↔ Spelled s
exactly s = (spelled s, well-formed s)
