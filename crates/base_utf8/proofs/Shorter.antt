-- Where no byte begins a long sequence, fewer of the bytes before one decide whether it may come.
use mathlib.Core.Path.{◌≡◌, refl, sym, ◌∙◌}
use mathlib.Core.Bool.{Bool, true, false, not, ◌&&◌, ◌||◌}
use mathlib.Core.List.{List, [], ◌∷◌}
use Prim.Native.Nat.{ℕ, suc, ◌+◌, ◌-◌, ◌≤◌, ◌<◌}
use native.Mathlib.Numerals.{add-one}
use native.Mathlib.Omega.{arith}
use borrow.Author.Tests.{ltb-true, le-leb, lt-leb, lt-ltb, le-ltb, ne_eqb}
use lib.Dec.{ltb}
use lib.ListN.{length, get_or, drop, drop_of_length-le}
use lib.Seq.{drop-cons}
use Rattle.base_utf8.specs.WellFormed.{well_formed}
use Rattle.base_utf8.specs.Bytewise.{all_below, back, due, begins, second, allowed, judged, allowed3, judged3, allowed2, judged2}
use Rattle.base_utf8.proofs.Lines.{and_l, and_r, and-true, split}
use Rattle.base_utf8.proofs.Below.{raised}
use Rattle.base_utf8.proofs.Bytewise.{and_assoc, as-walked}

or-false : (x : Bool) → (x || false) ≡ x
or-false true = refl
or-false false = refl

-- ---- no sequence of four

allowed-three : (a b c d : ℕ) → a < 0xF0 → c < 0xF0 → allowed a b c d ≡ allowed3 b c d
unfolding allowed due begins second allowed3
allowed-three a b c d h l =
    rw (lt-leb 0xF0 a h, lt-ltb c 0xF5 (omega arith), ne_eqb c 0xF0 (λ e. omega arith), ne_eqb c 0xF4 (λ e. omega arith)) (simp (or-false, and-true))

end-three : (a b c : ℕ) → a < 0xF0 → not (due a b c) ≡ (ltb c 0xC0 && ltb b 0xE0)
unfolding due
end-three a b c h =
    split c 0xC0 (λ l.
    split b 0xE0 (λ m. rw (lt-leb 0xC0 c l, lt-ltb c 0xC0 l, lt-leb 0xE0 b m, lt-ltb b 0xE0 m, lt-leb 0xF0 a h))
    (λ m. rw (lt-leb 0xC0 c l, lt-ltb c 0xC0 l, le-leb 0xE0 b m, le-ltb b 0xE0 m)))
    (λ l. rw (le-leb 0xC0 c l, le-ltb c 0xC0 l))

judged-three : (a b c : ℕ) (s : List ℕ) → a < 0xF0 → b < 0xF0 → c < 0xF0 → all_below 0xF0 s ≡ true → judged a b c s ≡ judged3 b c s
unfolding judged judged3 all_below
judged-three a b c [] h i j k = end-three a b c h
judged-three a b c (d ∷ s) h i j k =
    let l = ltb-true d 0xF0 (and_l (ltb d 0xF0) (all_below 0xF0 s) k) in
    rw (allowed-three a b c d h j, judged-three b c d s i j l (and_r (ltb d 0xF0) (all_below 0xF0 s) k))

pub as-three : (s : List ℕ) → all_below 0xF0 s ≡ true → well_formed s ≡ judged3 0 0 s
as-three s k = as-walked s ∙ judged-three 0 0 0 s (omega arith) (omega arith) (omega arith) k

-- ---- nor one of three

allowed-two : (b c d : ℕ) → b < 0xE0 → c < 0xE0 → allowed3 b c d ≡ allowed2 c d
unfolding allowed3 allowed2
allowed-two b c d h l =
    rw (lt-leb 0xE0 b h, ne_eqb c 0xE0 (λ e. omega arith), ne_eqb c 0xED (λ e. omega arith)) (simp (or-false, and-true))

judged-two : (b c : ℕ) (s : List ℕ) → b < 0xE0 → c < 0xE0 → all_below 0xE0 s ≡ true → judged3 b c s ≡ judged2 c s
unfolding judged3 judged2 all_below
judged-two b c [] h i k = rw (lt-ltb b 0xE0 h) (and-true (ltb c 0xC0))
judged-two b c (d ∷ s) h i k =
    let l = ltb-true d 0xE0 (and_l (ltb d 0xE0) (all_below 0xE0 s) k) in
    rw (allowed-two b c d h i, judged-two c d s i l (and_r (ltb d 0xE0) (all_below 0xE0 s) k))

pub as-two : (s : List ℕ) → all_below 0xE0 s ≡ true → well_formed s ≡ judged2 0 s
as-two s k = as-three s (raised 0xE0 0xF0 (omega arith) s k) ∙ judged-two 0 0 s (omega arith) (omega arith) k

-- ---- the loops: what was good so far, and the bytes from i on
module _ (s : List ℕ) (i : ℕ) (good : Bool) where
  module _ (b c : ℕ) (inv : well_formed s ≡ (good && judged3 b c (drop i s))) where
    pub further-three : i < length s → well_formed s ≡ ((good && allowed3 b c (get_or s i 0)) && judged3 c (get_or s i 0) (drop (i + 1) s))
    unfolding judged3
    further-three h = inv ∙ rw (drop-cons s i 0, add-one) (and_assoc good (allowed3 b c (get_or s i 0)) (judged3 c (get_or s i 0) (drop (suc i) s)))

    pub ended-three : length s ≤ i → (good && (ltb c 0xC0 && ltb b 0xE0)) ≡ well_formed s
    unfolding judged3
    ended-three h = sym (inv ∙ rw (drop_of_length-le s h))

  module _ (c : ℕ) (inv : well_formed s ≡ (good && judged2 c (drop i s))) where
    pub further-two : i < length s → well_formed s ≡ ((good && allowed2 c (get_or s i 0)) && judged2 (get_or s i 0) (drop (i + 1) s))
    unfolding judged2
    further-two h = inv ∙ rw (drop-cons s i 0, add-one) (and_assoc good (allowed2 c (get_or s i 0)) (judged2 (get_or s i 0) (drop (suc i) s)))

    pub ended-two : length s ≤ i → (good && ltb c 0xC0) ≡ well_formed s
    unfolding judged2
    ended-two h = sym (inv ∙ rw (drop_of_length-le s h))

-- ---- the same where the last bytes are read again: from i on, at least 2 or 1
abbrev pub ThreeFrom : List ℕ → ℕ → Bool → Type 0
ThreeFrom s i good = well_formed s ≡ (good && judged3 (back s i 2) (back s i 1) (drop i s))

pub three-begin : (s : List ℕ) → all_below 0xF0 s ≡ true → 2 ≤ length s → ThreeFrom s 2 (allowed3 0 0 (get_or s 0 0) && allowed3 0 (get_or s 0 0) (get_or s 1 0))
three-begin s k h =
    let p = further-three s 0 true 0 0 (as-three s k) (omega arith) in
    further-three s 1 (allowed3 0 0 (get_or s 0 0)) 0 (get_or s 0 0) p (omega arith)

pub three-turn : (s : List ℕ) (i : ℕ) (good : Bool) → ThreeFrom s i good → 2 ≤ i → i < length s → ThreeFrom s (i + 1) (good && allowed3 (back s i 2) (back s i 1) (get_or s i 0))
three-turn s i good inv l h =
    let e₂ : i + 1 - 2 ≡ i - 1 = omega arith in
    let e₁ : i + 1 - 1 ≡ i = omega arith in
    rw (e₂, e₁) (further-three s i good (back s i 2) (back s i 1) inv h)

abbrev pub TwoFrom : List ℕ → ℕ → Bool → Type 0
TwoFrom s i good = well_formed s ≡ (good && judged2 (back s i 1) (drop i s))

pub two-begin : (s : List ℕ) → all_below 0xE0 s ≡ true → 1 ≤ length s → TwoFrom s 1 (allowed2 0 (get_or s 0 0))
two-begin s k h = further-two s 0 true 0 (as-two s k) (omega arith)

pub two-turn : (s : List ℕ) (i : ℕ) (good : Bool) → TwoFrom s i good → i < length s → TwoFrom s (i + 1) (good && allowed2 (back s i 1) (get_or s i 0))
two-turn s i good inv h =
    let e₁ : i + 1 - 1 ≡ i = omega arith in
    rw e₁ (further-two s i good (back s i 1) inv h)
