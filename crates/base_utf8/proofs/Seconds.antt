-- The second byte of a sequence judged by one comparison of numbers for two first bytes: lo, which no byte from 80 to h may follow, and hi, which no other may.
use mathlib.Core.Path.{◌≡◌, refl, sym, ◌∙◌}
use mathlib.Core.Bool.{Bool, true, false, cond, not, ◌&&◌, ◌||◌}
use Prim.Native.Nat.{ℕ, suc, ◌+◌, ◌-◌, ◌≤◌, ◌<◌}
use native.Mathlib.Omega.{arith}
use borrow.Author.Tests.{leb-true, eqb-true, eqb-false, le-leb, lt-leb, eq-eqb, ne_eqb}
use lib.Dec.{leb, ltb, eqb}
use Rattle.base_utf8.specs.Bytewise.{due, trails, begins, second, allowed, allowed3}
use Rattle.base_utf8.proofs.Lines.{and_l, split}

-- two tests that hold of the same numbers
same_test : (a b x y : ℕ) → (a ≡ b → x ≡ y) → (x ≡ y → a ≡ b) → eqb a b ≡ eqb x y
same_test a b x y f g = go (eqb a b) refl
  where
    go : (t : Bool) → eqb a b ≡ t → eqb a b ≡ eqb x y
    go true e = e ∙ sym (eq-eqb x y (f (eqb-true a b e)))
    go false e = e ∙ sym (ne_eqb x y (λ q. eqb-false a b e (g q)))

-- what decides only where p holds
where-true : (p q r : Bool) → (p ≡ true → q ≡ r) → (p && q) ≡ (p && r)
where-true true q r f = f refl
where-true false q r f = refl

kept : (x y : Bool) → ((not y || true) && (not x || false)) ≡ not x
kept true true = refl
kept true false = refl
kept false true = refl
kept false false = refl

met : (x y : Bool) → ((not y || false) && (not x || true)) ≡ not y
met true true = refl
met true false = refl
met false true = refl
met false false = refl

abbrev pub by_sum : ℕ → ℕ → ℕ → ℕ → ℕ → Bool
by_sum h n m c d = not (eqb ((c - 0xDF) + cond (leb 0x80 d && leb d h) n 0) m)

abbrev by_each : ℕ → ℕ → ℕ → ℕ → ℕ → Bool
by_each lo hi h c d = (not (eqb c lo) || leb (suc h) d) && (not (eqb c hi) || leb d h)

-- a byte trails exactly if that is due
abbrev pub as_due : Bool → ℕ → Bool
as_due u d = (u || not (trails d)) && (not u || trails d)

trailed : (u t : Bool) → ((u || not t) && (not u || t)) ≡ true → u ≡ true → t ≡ true
trailed true t s e = s
trailed false t s e = cc

-- n is how far hi lies past lo, m how far past DF
module _ (lo hi h n m : ℕ) (en : lo + n ≡ hi) (em : 0xDF + m ≡ hi) (l : 0xDF < lo) (lt : lo < hi) (c d : ℕ) where
  after_first : 0x80 ≤ d → by_sum h n m c d ≡ by_each lo hi h c d
  after_first t =
      split h d
      (λ a. rw (le-leb 0x80 d t, lt-leb d h a, le-leb (suc h) d (omega arith), same_test ((c - 0xDF) + 0) m c hi (λ e. omega arith) (λ e. omega arith)) (sym (kept (eqb c hi) (eqb c lo))))
      (λ a. rw (le-leb 0x80 d t, le-leb d h a, lt-leb (suc h) d (omega arith), same_test ((c - 0xDF) + n) m c lo (λ e. omega arith) (λ e. omega arith)) (sym (met (eqb c hi) (eqb c lo))))

  after-other : c < 0xC0 → by_sum h n m c d ≡ by_each lo hi h c d
  after-other k = rw (ne_eqb c lo (λ e. omega arith), ne_eqb c hi (λ e. omega arith)) (go (leb 0x80 d && leb d h))
    where
      go : (t : Bool) → not (eqb ((c - 0xDF) + cond t n 0) m) ≡ true
      go true = rw (ne_eqb ((c - 0xDF) + n) m (λ e. omega arith))
      go false = rw (ne_eqb ((c - 0xDF) + 0) m (λ e. omega arith))

  -- so both ways to judge it agree
  agree : (u : Bool) → (0xC0 ≤ c → u ≡ true) → as_due u d ≡ true → by_sum h n m c d ≡ by_each lo hi h c d
  unfolding trails
  agree u f s = split c 0xC0 after-other (λ k. after_first (leb-true 0x80 d (and_l (leb 0x80 d) (leb d 0xBF) (trailed u (trails d) s (f k)))))

-- ---- as the code judges it

at_most : (t : Bool) (n : ℕ) → cond t n 0 ≤ n
at_most true n = omega arith
at_most false n = omega arith

pub low-most : (d h n : ℕ) → cond (leb 0x80 d && leb d h) n 0 ≤ n
low-most d h n = at_most (leb 0x80 d && leb d h) n

pub by_three : (b c d : ℕ) → (as_due (leb 0xC0 c || leb 0xE0 b) d && ((ltb c 0xC0 || leb 0xC2 c) && by_sum 0x9F 13 14 c d)) ≡ allowed3 b c d
unfolding allowed3
by_three b c d =
    let u = leb 0xC0 c || leb 0xE0 b in
    where-true (as_due u d) _ _ (λ s. rw (agree 0xE0 0xED 0x9F 13 14 (omega arith) (omega arith) (omega arith) (omega arith) c d u (λ k. rw (le-leb 0xC0 c k)) s))

pub by-four : (a b c d : ℕ) → (as_due (due a b c) d && (begins c && (by_sum 0x9F 13 14 c d && by_sum 0x8F 4 21 c d))) ≡ allowed a b c d
unfolding allowed second due
by-four a b c d =
    where-true (as_due (due a b c) d) _ _ (λ s.
    let f : 0xC0 ≤ c → due a b c ≡ true = λ k. rw (le-leb 0xC0 c k) in
    rw (
      agree 0xE0 0xED 0x9F 13 14 (omega arith) (omega arith) (omega arith) (omega arith) c d (due a b c) f s,
      agree 0xF0 0xF4 0x8F 4 21 (omega arith) (omega arith) (omega arith) (omega arith) c d (due a b c) f s,
    ))
