-- Each byte judged from the three before it is the walk of Table 3-7.
use mathlib.Core.Path.{◌≡◌, refl, sym, ap, ◌∙◌}
use mathlib.Core.Bool.{Bool, true, false, cond, not, ◌&&◌, ◌||◌}
use mathlib.Core.List.{List, [], ◌∷◌}
use Prim.Native.Nat.{ℕ, suc, ◌+◌, ◌-◌, ◌≤◌, ◌<◌}
use native.Mathlib.Numerals.{add-one}
use native.Mathlib.Omega.{arith}
use borrow.Author.Tests.{leb-true, leb-false, ltb-true, ltb-false, eqb-true, le-leb, lt-leb, lt-ltb, le-ltb, ne_eqb}
use lib.Dec.{leb, ltb, eqb}
use lib.ListN.{length, get_or, drop, drop_of_length-le}
use lib.Seq.{drop-cons}
use Rattle.base_utf8.specs.WellFormed.{Range, within, table, trailing, completes, well_formed}
use Rattle.base_utf8.specs.Bytewise.{back, due, trails, begins, second, allowed, judged}
use Rattle.base_utf8.proofs.Lines.{and-false, and-true, split, high, under, over, line, no_line, by-line}

pub and_assoc : (x y z : Bool) → (x && (y && z)) ≡ ((x && y) && z)
and_assoc true y z = refl
and_assoc false y z = refl

-- ---- tests that do not tell the bytes from lo to hi apart

module _ (k lo hi c : ℕ) (l : lo ≤ c) (h : c ≤ hi) where
  same-leb : leb k lo ≡ leb k hi → leb k c ≡ leb k lo
  same-leb e = go (leb k lo) refl
    where
      go : (t : Bool) → leb k lo ≡ t → leb k c ≡ leb k lo
      go true p = le-leb k c (omega (arith, leb-true k lo p)) ∙ sym p
      go false p = lt-leb k c (omega (arith, leb-false k hi (sym e ∙ p))) ∙ sym p

  same-ltb : ltb lo k ≡ ltb hi k → ltb c k ≡ ltb lo k
  same-ltb e = go (ltb lo k) refl
    where
      go : (t : Bool) → ltb lo k ≡ t → ltb c k ≡ ltb lo k
      go true p = lt-ltb c k (omega (arith, ltb-true hi k (sym e ∙ p))) ∙ sym p
      go false p = le-ltb c k (omega (arith, ltb-false lo k p)) ∙ sym p

  same-eqb : (ltb k lo || (ltb hi k || eqb lo hi)) ≡ true → eqb c k ≡ eqb lo k
  same-eqb e = go (ltb k lo) (ltb hi k) refl refl e
    where
      apart : (c ≡ k → ⊥) → (lo ≡ k → ⊥) → eqb c k ≡ eqb lo k
      apart p q = ne_eqb c k p ∙ sym (ne_eqb lo k q)

      go : (t u : Bool) → ltb k lo ≡ t → ltb hi k ≡ u → (t || (u || eqb lo hi)) ≡ true → eqb c k ≡ eqb lo k
      go true u p q f = let z = ltb-true k lo p in apart (λ x. omega arith) (λ x. omega arith)
      go false true p q f = let z = ltb-true hi k q in apart (λ x. omega arith) (λ x. omega arith)
      go false false p q f = let z = eqb-true lo hi f in let x : c ≡ lo = omega arith in ap (λ (n : ℕ). eqb n k) x

-- no test of a byte on the one before it tells those from lo to hi apart
abbrev Apart : ℕ → ℕ → ℕ → Bool
Apart lo hi k = ltb k lo || (ltb hi k || eqb lo hi)

abbrev Alike : ℕ → ℕ → Type 0
Alike lo hi =
    (leb 0xC0 lo ≡ leb 0xC0 hi)
    × ((ltb lo 0xC0 ≡ ltb hi 0xC0)
    × ((leb 0xC2 lo ≡ leb 0xC2 hi)
    × ((ltb lo 0xF5 ≡ ltb hi 0xF5)
    × ((Apart lo hi 0xE0 ≡ true) × ((Apart lo hi 0xED ≡ true) × ((Apart lo hi 0xF0 ≡ true) × (Apart lo hi 0xF4 ≡ true)))))))

alike : (lo hi a b c d : ℕ) → Alike lo hi → lo ≤ c → c ≤ hi → allowed a b c d ≡ allowed a b lo d
unfolding allowed due begins second
alike lo hi a b c d (p, (q, (r, (t, (e, (f, (g, i))))))) l h =
    rw (
      same-leb 0xC0 lo hi c l h p,
      same-ltb 0xC0 lo hi c l h q,
      same-leb 0xC2 lo hi c l h r,
      same-ltb 0xF5 lo hi c l h t,
      same-eqb 0xE0 lo hi c l h e,
      same-eqb 0xED lo hi c l h f,
      same-eqb 0xF0 lo hi c l h g,
      same-eqb 0xF4 lo hi c l h i,
    )

-- ---- what is to come after a, b, c

abbrev one : List Range
one = (0x80, 0xBF) ∷ []

unfoldable pending : ℕ → ℕ → ℕ → List Range
pending a b c = cond (leb 0xC0 c) (trailing c) (cond (leb 0xE0 b) ((0x80, 0xBF) ∷ cond (leb 0xF0 b) one []) (cond (leb 0xF0 a) one []))

module _ (a b c : ℕ) where
  after_first : 0xC0 ≤ c → pending a b c ≡ trailing c
  unfolding pending
  after_first h = rw (le-leb 0xC0 c h)

  after-second : c < 0xC0 → 0xE0 ≤ b → pending a b c ≡ (0x80, 0xBF) ∷ cond (leb 0xF0 b) one []
  unfolding pending
  after-second l h = rw (lt-leb 0xC0 c l, le-leb 0xE0 b h)

  after-third : c < 0xC0 → b < 0xE0 → pending a b c ≡ cond (leb 0xF0 a) one []
  unfolding pending
  after-third l h = rw (lt-leb 0xC0 c l, lt-leb 0xE0 b h)

-- ---- one byte further

-- the walk over one byte, and what may come
abbrev Step : ℕ → ℕ → ℕ → ℕ → List ℕ → Type 0
Step a b c d s = completes (pending a b c) (d ∷ s) ≡ (allowed a b c d && completes (pending b c d) s)

-- no byte is in the range after a byte that never occurs
nowhere : (d : ℕ) → within (1, 0) d ≡ false
nowhere d = split d 1 (λ h. under (1, 0) d h) (λ h. over (1, 0) d (omega arith))

pub dead : (s : List ℕ) → completes ((1, 0) ∷ []) s ≡ false
unfolding completes
dead [] = refl
dead (d ∷ s) = rw (nowhere d)

-- the second byte's range, of the trailing bytes
from : (l d : ℕ) → 0x80 ≤ l → ((leb 0x80 d && leb d 0xBF) && leb l d) ≡ (leb l d && leb d 0xBF)
from l d p =
    split d l (λ h. rw (lt-leb l d h) (and-false (leb 0x80 d && leb d 0xBF)))
    (λ h. rw (le-leb l d h, le-leb 0x80 d (omega arith)) (and-true (leb d 0xBF)))

upto : (h d : ℕ) → h ≤ 0xBF → ((leb 0x80 d && leb d 0xBF) && leb d h) ≡ (leb 0x80 d && leb d h)
upto h d p =
    split h d (λ l. rw (lt-leb d h l) (and-false (leb 0x80 d && leb d 0xBF) ∙ sym (and-false (leb 0x80 d))))
    (λ l. rw (le-leb d h l, le-leb d 0xBF (omega arith)) (and-true (leb 0x80 d && true)))

module _ (a b c d : ℕ) (s : List ℕ) where
  -- a byte in r is to come, and then the rest
  met : (r : Range) (rest : List Range) → r.1 ≤ 0xBF → pending a b c ≡ r ∷ rest → allowed a b c d ≡ within r d → (d < 0xC0 → pending b c d ≡ rest) → Step a b c d s
  unfolding completes
  met r rest u p w q = go (within r d) refl
    where
      go : (t : Bool) → within r d ≡ t → Step a b c d s
      go true e = let n : d < 0xC0 = omega (arith, high r d e) in rw (p, w, e, q n)
      go false e = rw (p, w, e)

  -- nothing may come
  lost : 0xC0 ≤ c → trailing c ≡ (1, 0) ∷ [] → begins c ≡ false → Step a b c d s
  unfolding completes allowed
  lost h t f = rw (after_first a b c h, t, nowhere d, f, and-false)

-- after the first byte of a sequence
module _ (a b c d : ℕ) (s : List ℕ) (none-begun : 0xF0 ≤ b → c < 0xC0) where
  -- by the line of the table that has it, from lo to hi, with r for the second byte and the rest to come
  by-its-line : (lo hi : ℕ) (r : Range) (rest : List Range) → 0xC0 ≤ c → lo ≤ c → c ≤ hi → Alike lo hi → r.1 ≤ 0xBF → trailing c ≡ r ∷ rest → allowed a b lo d ≡ within r d → (d < 0xC0 → pending b c d ≡ rest) → Step a b c d s
  by-its-line lo hi r rest m l h k u t w q = met a b c d s r rest u (after_first a b c m ∙ t) (alike lo hi a b c d k l h ∙ w) q

  two-left : 0xC0 ≤ c → c < 0xE0 → d < 0xC0 → pending b c d ≡ []
  two-left m h l = after-third b c d l h ∙ rw (lt-leb 0xF0 b (split b 0xF0 (λ x. x) (λ x. absurd (omega (arith, none-begun x)))))

  three-left : 0xE0 ≤ c → c < 0xF0 → d < 0xC0 → pending b c d ≡ one
  three-left m h l = after-second b c d l m ∙ rw (lt-leb 0xF0 c h)

  four-left : 0xF0 ≤ c → d < 0xC0 → pending b c d ≡ (0x80, 0xBF) ∷ one
  four-left m l = after-second b c d l (omega arith) ∙ rw (le-leb 0xF0 c m)

  first_step : 0xC0 ≤ c → Step a b c d s
  unfolding table within allowed due trails begins second
  first_step m =
      split c 0xC2 (λ h. lost a b c d s m (no_line 0xC0 0xC2 c m h refl) (rw (le-ltb c 0xC0 m, lt-leb 0xC2 c h))) (λ l1.
      split c 0xE0 (λ h. by-its-line 0xC2 0xDF (0x80, 0xBF) [] m l1 (omega arith) (refl, (refl, (refl, (refl, (refl, (refl, (refl, refl))))))) (omega arith) (line 1 c refl l1 (omega arith)) (and-true _) (two-left m h)) (λ l2.
      split c 0xE1 (λ h. by-its-line 0xE0 0xE0 (0xA0, 0xBF) one m l2 (omega arith) (refl, (refl, (refl, (refl, (refl, (refl, (refl, refl))))))) (omega arith) (line 2 c refl l2 (omega arith)) (simp and-true (from 0xA0 d (omega arith))) (three-left l2 (omega arith))) (λ l3.
      split c 0xED (λ h. by-its-line 0xE1 0xEC (0x80, 0xBF) one m l3 (omega arith) (refl, (refl, (refl, (refl, (refl, (refl, (refl, refl))))))) (omega arith) (line 3 c refl l3 (omega arith)) (and-true _) (three-left l2 (omega arith))) (λ l4.
      split c 0xEE (λ h. by-its-line 0xED 0xED (0x80, 0x9F) one m l4 (omega arith) (refl, (refl, (refl, (refl, (refl, (refl, (refl, refl))))))) (omega arith) (line 4 c refl l4 (omega arith)) (simp and-true (upto 0x9F d (omega arith))) (three-left l2 (omega arith))) (λ l5.
      split c 0xF0 (λ h. by-its-line 0xEE 0xEF (0x80, 0xBF) one m l5 (omega arith) (refl, (refl, (refl, (refl, (refl, (refl, (refl, refl))))))) (omega arith) (line 5 c refl l5 (omega arith)) (and-true _) (three-left l2 (omega arith))) (λ l6.
      split c 0xF1 (λ h. by-its-line 0xF0 0xF0 (0x90, 0xBF) ((0x80, 0xBF) ∷ one) m l6 (omega arith) (refl, (refl, (refl, (refl, (refl, (refl, (refl, refl))))))) (omega arith) (line 6 c refl l6 (omega arith)) (simp and-true (from 0x90 d (omega arith))) (four-left l6)) (λ l7.
      split c 0xF4 (λ h. by-its-line 0xF1 0xF3 (0x80, 0xBF) ((0x80, 0xBF) ∷ one) m l7 (omega arith) (refl, (refl, (refl, (refl, (refl, (refl, (refl, refl))))))) (omega arith) (line 7 c refl l7 (omega arith)) (and-true _) (four-left l6)) (λ l8.
      split c 0xF5 (λ h. by-its-line 0xF4 0xF4 (0x80, 0x8F) ((0x80, 0xBF) ∷ one) m l8 (omega arith) (refl, (refl, (refl, (refl, (refl, (refl, (refl, refl))))))) (omega arith) (line 8 c refl l8 (omega arith)) (upto 0x8F d (omega arith)) (four-left l6)) (λ l9.
      lost a b c d s m (no_line 0xF5 (suc c) c l9 (omega arith) refl) (rw (le-ltb c 0xF5 l9) (and-false (ltb c 0xC0 || leb 0xC2 c))))))))))))

-- after a byte that begins none
module _ (a b c d : ℕ) (s : List ℕ) (m : c < 0xC0) where
  -- the two that stand before it decide
  abbrev owed : Bool
  owed = leb 0xE0 b || leb 0xF0 a

  by_two : allowed a b c d ≡ ((owed || not (trails d)) && (not owed || trails d))
  unfolding allowed due begins second
  by_two = alike 0 0xBF a b c d (refl, (refl, (refl, (refl, (refl, (refl, (refl, refl))))))) (omega arith) (omega arith) ∙ and-true ((owed || not (trails d)) && (not owed || trails d))

  -- a trailing byte is to come
  owed-step : owed ≡ true → (rest : List Range) → pending a b c ≡ (0x80, 0xBF) ∷ rest → (d < 0xC0 → pending b c d ≡ rest) → Step a b c d s
  unfolding trails within
  owed-step e rest p q = met a b c d s (0x80, 0xBF) rest (omega arith) p (by_two ∙ rw e) q

  -- nothing is to come: a first byte
  free : owed ≡ false → allowed a b c d ≡ not (trails d)
  free e = by_two ∙ rw e (and-true (not (trails d)))

  first : owed ≡ false → pending a b c ≡ [] → (d < 0xC0 → pending b c d ≡ []) → Step a b c d s
  unfolding completes table trails
  first e p q =
      split d 0x80 (λ h. rw (p, free e, lt-leb 0x80 d h, q (omega arith)) (ap (λ rs. completes rs s) (line 0 d refl (omega arith) (omega arith)))) (λ l.
      split d 0xC0 (λ h. rw (p, free e, le-leb 0x80 d l, le-leb d 0xBF (omega arith)) (ap (λ rs. completes rs s) (no_line 0x80 0xC0 d l h refl) ∙ dead s))
      (λ h. rw (p, free e, le-leb 0x80 d l, lt-leb d 0xBF (omega arith), after_first b c d h)))

  later-step : Step a b c d s
  later-step =
      split b 0xE0 (λ h.
      split a 0xF0 (λ i. first (rw (lt-leb 0xE0 b h, lt-leb 0xF0 a i)) (after-third a b c m h ∙ rw (lt-leb 0xF0 a i)) (λ j. after-third b c d j (omega arith) ∙ rw (lt-leb 0xF0 b (omega arith))))
      (λ i. owed-step (rw (lt-leb 0xE0 b h, le-leb 0xF0 a i)) [] (after-third a b c m h ∙ rw (le-leb 0xF0 a i)) (λ j. after-third b c d j (omega arith) ∙ rw (lt-leb 0xF0 b (omega arith)))))
      (λ h. owed-step (rw (le-leb 0xE0 b h)) (cond (leb 0xF0 b) one []) (after-second a b c m h) (λ j. after-third b c d j (omega arith)))

-- a first byte is followed by a trailing one
followed : (a b c d : ℕ) → allowed a b c d ≡ true → 0xC0 ≤ c → d < 0xC0
unfolding allowed due trails
followed a b c d e m = split d 0xC0 (λ h. h) (λ h. let z : ◌≡◌ {A = Bool} false true = rw (le-leb 0xC0 c m, lt-leb d 0xBF (omega arith), and-false) at e in let y : ◌≡◌ {A = ℕ} 0 1 = cc in absurd (omega arith))

-- at the end nothing is due
trailing-some : (c : ℕ) → 0xC0 ≤ c → completes (trailing c) [] ≡ false
unfolding trailing table completes
trailing-some c m = by-line (λ rs. completes rs [] ≡ false) c table ((λ w. absurd (omega (arith, high (0x00, 0x7F) c w))), ((λ _. refl), ((λ _. refl), ((λ _. refl), ((λ _. refl), ((λ _. refl), ((λ _. refl), ((λ _. refl), ((λ _. refl), refl)))))))))

at-end : (a b c : ℕ) → completes (pending a b c) [] ≡ not (due a b c)
unfolding completes due
at-end a b c =
    split c 0xC0 (λ l.
    split b 0xE0 (λ h.
    split a 0xF0 (λ i. rw (after-third a b c l h, lt-leb 0xC0 c l, lt-leb 0xE0 b h, lt-leb 0xF0 a i))
    (λ i. rw (after-third a b c l h, lt-leb 0xC0 c l, lt-leb 0xE0 b h, le-leb 0xF0 a i)))
    (λ h. rw (after-second a b c l h, lt-leb 0xC0 c l, le-leb 0xE0 b h)))
    (λ h. rw (after_first a b c h, le-leb 0xC0 c h) (trailing-some c h))

-- ---- THE LAW: the bytes after a, b, c, where no first byte of four stands right before another first byte
by_bytes : (a b c : ℕ) (s : List ℕ) → (0xF0 ≤ b → c < 0xC0) → completes (pending a b c) s ≡ judged a b c s
unfolding judged
by_bytes a b c [] none-begun = at-end a b c
by_bytes a b c (d ∷ s) none-begun = go (allowed a b c d) refl (by_bytes b c d s)
  where
    step : Step a b c d s
    step = split c 0xC0 (later-step a b c d s) (first_step a b c d s none-begun)

    go : (t : Bool) → allowed a b c d ≡ t → ((0xF0 ≤ c → d < 0xC0) → completes (pending b c d) s ≡ judged b c d s) → completes (pending a b c) (d ∷ s) ≡ (allowed a b c d && judged b c d s)
    go true e f = step ∙ rw (f (λ h. followed a b c d e (omega arith)))
    go false e f = step ∙ rw e

pub as-walked : (s : List ℕ) → well_formed s ≡ judged 0 0 0 s
unfolding well_formed pending
as-walked s = by_bytes 0 0 0 s (λ h. omega arith)

-- ---- the loop: what was good so far, and the bytes from i on
module _ (s : List ℕ) (a b c i : ℕ) (good : Bool) (inv : well_formed s ≡ (good && judged a b c (drop i s))) where
  pub one_further : i < length s → well_formed s ≡ ((good && allowed a b c (get_or s i 0)) && judged b c (get_or s i 0) (drop (i + 1) s))
  unfolding judged
  one_further h = inv ∙ rw (drop-cons s i 0, add-one) (and_assoc good (allowed a b c (get_or s i 0)) (judged b c (get_or s i 0) (drop (suc i) s)))

  pub ended : length s ≤ i → (good && not (due a b c)) ≡ well_formed s
  unfolding judged
  ended h = sym (inv ∙ rw (drop_of_length-le s h))

-- ---- the same where the last three bytes are read again: from i on, at least 3
abbrev pub FourFrom : List ℕ → ℕ → Bool → Type 0
FourFrom s i good = well_formed s ≡ (good && judged (back s i 3) (back s i 2) (back s i 1) (drop i s))

pub four-begin : (s : List ℕ) → 3 ≤ length s → FourFrom s 3 ((allowed 0 0 0 (get_or s 0 0) && allowed 0 0 (get_or s 0 0) (get_or s 1 0)) && allowed 0 (get_or s 0 0) (get_or s 1 0) (get_or s 2 0))
four-begin s h =
    let a = get_or s 0 0 in
    let b = get_or s 1 0 in
    let p = one_further s 0 0 0 0 true (as-walked s) (omega arith) in
    let q = one_further s 0 0 a 1 (allowed 0 0 0 a) p (omega arith) in
    one_further s 0 a b 2 (allowed 0 0 0 a && allowed 0 0 a b) q (omega arith)

pub four-turn : (s : List ℕ) (i : ℕ) (good : Bool) → FourFrom s i good → 3 ≤ i → i < length s → FourFrom s (i + 1) (good && allowed (back s i 3) (back s i 2) (back s i 1) (get_or s i 0))
four-turn s i good inv l h =
    let e₃ : i + 1 - 3 ≡ i - 2 = omega arith in
    let e₂ : i + 1 - 2 ≡ i - 1 = omega arith in
    let e₁ : i + 1 - 1 ≡ i = omega arith in
    rw (e₃, e₂, e₁) (one_further s (back s i 3) (back s i 2) (back s i 1) i good inv h)
