-- Laws of Table 3-7: the line of a first byte.
use mathlib.Core.Path.{◌≡◌, refl}
use mathlib.Core.Bool.{Bool, true, false, cond, ◌&&◌}
use mathlib.Core.List.{List, [], ◌∷◌}
use Prim.Native.Nat.{ℕ, zero, suc, ◌≤◌, ◌<◌}
use native.Mathlib.Omega.{arith}
use borrow.Author.Tests.{leb-true, ltb-true, ltb-false, le-leb, lt-leb}
use lib.Dec.{leb, ltb}
use lib.ListN.{get_or}
use Rattle.base_utf8.specs.WellFormed.{Range, Line, within, table, after, trailing}

-- both of two tests
pub and_l : (x y : Bool) → x && y ≡ true → x ≡ true
and_l true y h = refl
and_l false y h = h

pub and_r : (x y : Bool) → x && y ≡ true → y ≡ true
and_r true y h = h
and_r false y h = cc

-- below, or not
pub split : {P : Type 0} (a b : ℕ) → (a < b → P) → (b ≤ a → P) → P
split {P} a b f g = go (ltb a b) refl
  where
    go : (t : Bool) → ltb a b ≡ t → P
    go true e = f (ltb-true a b e)
    go false e = g (ltb-false a b e)

pub and-false : (x : Bool) → x && false ≡ false
and-false true = refl
and-false false = refl

pub and-true : (x : Bool) → x && true ≡ x
and-true true = refl
and-true false = refl

module _ (r : Range) (b : ℕ) where
  pub inside : r.0 ≤ b → b ≤ r.1 → within r b ≡ true
  unfolding within
  inside l h = simp (le-leb _ _ l, le-leb _ _ h)

  pub under : b < r.0 → within r b ≡ false
  unfolding within
  under h = simp (lt-leb _ _ h)

  pub over : r.1 < b → within r b ≡ false
  unfolding within
  over h = simp (lt-leb _ _ h, and-false)

  pub low : within r b ≡ true → r.0 ≤ b
  unfolding within
  low h = leb-true _ _ (and_l _ _ h)

  pub high : within r b ≡ true → b ≤ r.1
  unfolding within
  high h = leb-true _ _ (and_r (leb r.0 b) _ h)

-- the first bytes of the lines before line k are below n
abbrev clear : List Line → ℕ → ℕ → Bool
clear [] k n = true
clear (l ∷ ls) zero n = true
clear (l ∷ ls) (suc k) n = ltb l.0.1 n && clear ls k n

abbrev at : List Line → ℕ → Line
at ls k = get_or ls k ((1, 0), (1, 0) ∷ [])

find : (ls : List Line) (k a n : ℕ) → n ≤ a → clear ls k n ≡ true → within (at ls k).0 a ≡ true → after a ls ≡ (at ls k).1
unfolding after
find [] k a n h t w = refl
find (l ∷ ls) zero a n h t w = simp w
find (l ∷ ls) (suc k) a n h t w =
    let q = ltb-true l.0.1 n (and_l (ltb l.0.1 n) (clear ls k n) t) in
    simp (over l.0 a (omega arith)) (find ls k a n h (and_r (ltb l.0.1 n) _ t) w)

-- what follows a first byte that line k has. The test computes for each line of the table
pub line : (k a : ℕ) → clear table k (at table k).0.0 ≡ true → (at table k).0.0 ≤ a → a ≤ (at table k).0.1 → trailing a ≡ (at table k).1
unfolding trailing
line k a t l h = find table k a (at table k).0.0 l t (inside (at table k).0 a l h)

-- no line has a first byte from lo on and below hi
abbrev gap : List Line → ℕ → ℕ → Bool
gap [] lo hi = true
gap (l ∷ ls) lo hi = cond (ltb l.0.1 lo) true (leb hi l.0.0) && gap ls lo hi

-- a first byte that no line has. The test computes for each such range
module _ (lo hi a : ℕ) (below : lo ≤ a) (above : a < hi) where
  misses : (l : Line) (t : Bool) → ltb l.0.1 lo ≡ t → cond t true (leb hi l.0.0) ≡ true → within l.0 a ≡ false
  misses l true e h = over l.0 a (omega (arith, ltb-true l.0.1 lo e))
  misses l false e h = under l.0 a (omega (arith, leb-true hi l.0.0 h))

  nowhere : (ls : List Line) → gap ls lo hi ≡ true → after a ls ≡ (1, 0) ∷ []
  unfolding after
  nowhere [] g = refl
  nowhere (l ∷ ls) g =
      simp (misses l (ltb l.0.1 lo) refl (and_l _ (gap ls lo hi) g)) (nowhere ls (and_r (cond (ltb l.0.1 lo) true (leb hi l.0.0)) _ g))

  pub no_line : gap table lo hi ≡ true → trailing a ≡ (1, 0) ∷ []
  unfolding trailing
  no_line g = nowhere table g

-- what holds at each line that has a, and where none has it, holds of what follows a
abbrev pub each : (List Range → Type 0) → ℕ → List Line → Type 0
each P a [] = P ((1, 0) ∷ [])
each P a (l ∷ ls) = (within l.0 a ≡ true → P l.1) × each P a ls

pick : (P : List Range → Type 0) (t : Bool) (x y : List Range) → (t ≡ true → P x) → P y → P (cond t x y)
pick P true x y f g = f refl
pick P false x y f g = g

pub by-line : (P : List Range → Type 0) (a : ℕ) (ls : List Line) → each P a ls → P (after a ls)
unfolding after
by-line P a [] e = e
by-line P a (l ∷ ls) e = pick P (within l.0 a) l.1 (after a ls) e.0 (by-line P a ls e.1)
