-- Bytes below 128, four quarters read side by side and joined by OR.
use mathlib.Core.Path.{◌≡◌, refl, sym, ap, ◌∙◌}
use mathlib.Core.Bool.{Bool, true, false, ◌&&◌, and_assoc}
use mathlib.Core.List.{List, [], ◌∷◌, ◌++◌}
use Prim.Native.Nat.{ℕ, suc, ◌+◌, ◌*◌, ◌-◌, ◌≤◌, ◌<◌}
use native.Mathlib.Omega.{arith}
use borrow.Author.Tests.{lt-ltb, le-ltb}
use lib.Bits.{bit_or, or_lt, or_add_and, and_le_l, and_le_r}
use lib.Dec.{ltb}
use lib.ListN.{length, get_or, take, drop, take-append-drop}
use lib.Seq.{drop-cons, drop-drop}
use Rattle.base_utf8.specs.Bytewise.{all_below}
use Rattle.base_utf8.proofs.Lines.{split, and-false}

or-below : (a b : ℕ) → ltb (bit_or a b) 128 ≡ (ltb a 128 && ltb b 128)
or-below a b =
    split a 128
    (λ l. split b 128 (λ m. rw (lt-ltb a 128 l, lt-ltb b 128 m, lt-ltb (bit_or a b) 128 (or_lt 7 a b l m)))
    (λ m. rw (lt-ltb a 128 l, le-ltb b 128 m, le-ltb (bit_or a b) 128 (omega (arith, or_add_and a b, and_le_l a b)))))
    (λ l. rw (le-ltb a 128 l, le-ltb (bit_or a b) 128 (omega (arith, or_add_and a b, and_le_r a b))))

joined : (k : ℕ) (a b : List ℕ) → all_below k (a ++ b) ≡ (all_below k a && all_below k b)
unfolding all_below
joined k [] b = refl
joined k (x ∷ a) b = rw (joined k a b) (sym (and_assoc (ltb x k) (all_below k a) (all_below k b)))

or-all : (m a b c d : ℕ) → ltb (bit_or (bit_or (bit_or (bit_or m a) b) c) d) 128 ≡ ((((ltb m 128 && ltb a 128) && ltb b 128) && ltb c 128) && ltb d 128)
or-all m a b c d =
    or-below (bit_or (bit_or (bit_or m a) b) c) d
    ∙ ap (λ (t : Bool). t && ltb d 128) (or-below (bit_or (bit_or m a) b) c ∙ ap (λ (t : Bool). t && ltb c 128) (or-below (bit_or m a) b ∙ ap (λ (t : Bool). t && ltb b 128) (or-below m a)))

in_order_lem : (m a x b y c z d u : Bool) → (m && ((a && x) && ((b && y) && ((c && z) && (d && u))))) ≡ (((((m && a) && b) && c) && d) && (x && (y && (z && u))))
in_order_lem false a x b y c z d u = refl
in_order_lem true false x b y c z d u = refl
in_order_lem true true x false y c z d u = and-false x
in_order_lem true true x true y false z d u = ap (λ (t : Bool). x && t) (and-false y) ∙ and-false x
in_order_lem true true x true y true z false u = ap (λ (t : Bool). x && (y && t)) (and-false z) ∙ ap (λ (t : Bool). x && t) (and-false y) ∙ and-false x
in_order_lem true true x true y true z true u = refl

-- what is left of a quarter from j on, n bytes, and of the last one
abbrev part : List ℕ → ℕ → ℕ → Bool
part s n j = all_below 128 (take n (drop j s))

abbrev rest : List ℕ → ℕ → Bool
rest s j = all_below 128 (drop j s)

-- the loop: the bytes before i of each quarter are below 128 exactly if their OR is
abbrev pub Sides : List ℕ → ℕ → ℕ → ℕ → Type 0
Sides s side bits i =
    all_below 128 s ≡ (ltb bits 128 && (part s (side - i) i && (part s (side - i) (side + i) && (part s (side - i) (2 * side + i) && rest s (3 * side + i)))))

cut : (s : List ℕ) (n j k : ℕ) → k ≡ j + n → rest s j ≡ (part s n j && rest s k)
cut s n j k e =
    ap (all_below 128) (sym (take-append-drop n (drop j s)))
    ∙ joined 128 (take n (drop j s)) (drop n (drop j s))
    ∙ ap (λ (l : List ℕ). part s n j && all_below 128 l) (drop-drop n j s ∙ ap (λ (m : ℕ). drop m s) (sym e))

pub sides-begin : (s : List ℕ) (side : ℕ) → Sides s side 0 0
sides-begin s side =
    let e : side - 0 ≡ side = omega arith in
    let f : side + 0 ≡ side = omega arith in
    let g : 2 * side + 0 ≡ 2 * side = omega arith in
    let h : 3 * side + 0 ≡ 3 * side = omega arith in
    rw (e, f, g, h)
    (cut s side 0 side (omega arith)
    ∙ ap (λ (t : Bool). part s side 0 && t) (cut s side side (2 * side) (omega arith) ∙ ap (λ (t : Bool). part s side side && t) (cut s side (2 * side) (3 * side) (omega arith))))

cons-at : (s : List ℕ) (j k : ℕ) → k ≡ suc j → j < length s → drop j s ≡ get_or s j 0 ∷ drop k s
cons-at s j k e l = drop-cons s j 0 l ∙ ap (λ (n : ℕ). get_or s j 0 ∷ drop n s) (sym e)

part-turn : (s : List ℕ) (n m j k : ℕ) → n ≡ suc m → k ≡ suc j → j < length s → part s n j ≡ (ltb (get_or s j 0) 128 && part s m k)
unfolding all_below
part-turn s n m j k f e l =
    ap (λ (x : ℕ). part s x j) f ∙ ap (λ (r : List ℕ). all_below 128 (take (suc m) r)) (cons-at s j k e l)

rest-turn : (s : List ℕ) (j k : ℕ) → k ≡ suc j → j < length s → rest s j ≡ (ltb (get_or s j 0) 128 && rest s k)
unfolding all_below
rest-turn s j k e l = ap (all_below 128) (cons-at s j k e l)

module _ (s : List ℕ) (side bits i : ℕ) (inv : Sides s side bits i) where
  pub sides-turn : i < side → 4 * side ≤ length s → Sides s side (bit_or (bit_or (bit_or (bit_or bits (get_or s i 0)) (get_or s (side + i) 0)) (get_or s (2 * side + i) 0)) (get_or s (3 * side + i) 0)) (i + 1)
  sides-turn l h =
      let p : (j k : ℕ) → k ≡ suc j → j < length s → part s (side - i) j ≡ (ltb (get_or s j 0) 128 && part s (side - (i + 1)) k) = λ j k. part-turn s (side - i) (side - (i + 1)) j k (omega arith) in
      let b₀ = ltb (get_or s i 0) 128 in
      let b₁ = ltb (get_or s (side + i) 0) 128 in
      let b₂ = ltb (get_or s (2 * side + i) 0) 128 in
      let b₃ = ltb (get_or s (3 * side + i) 0) 128 in
      let q₀ = part s (side - (i + 1)) (i + 1) in
      let q₁ = part s (side - (i + 1)) (side + (i + 1)) in
      let q₂ = part s (side - (i + 1)) (2 * side + (i + 1)) in
      let q₃ = rest s (3 * side + (i + 1)) in
      let e₀ : part s (side - i) i ≡ (b₀ && q₀) = p i (i + 1) (omega arith) (omega arith) in
      let e₁ : part s (side - i) (side + i) ≡ (b₁ && q₁) = p (side + i) (side + (i + 1)) (omega arith) (omega arith) in
      let e₂ : part s (side - i) (2 * side + i) ≡ (b₂ && q₂) = p (2 * side + i) (2 * side + (i + 1)) (omega arith) (omega arith) in
      let e₃ : rest s (3 * side + i) ≡ (b₃ && q₃) = rest-turn s (3 * side + i) (3 * side + (i + 1)) (omega arith) (omega arith) in
      inv
      ∙ rw (e₀, e₁, e₂, e₃) (in_order_lem (ltb bits 128) b₀ q₀ b₁ q₁ b₂ q₂ b₃ q₃)
      ∙ ap (λ (t : Bool). t && (q₀ && (q₁ && (q₂ && q₃)))) (sym (or-all bits (get_or s i 0) (get_or s (side + i) 0) (get_or s (2 * side + i) 0) (get_or s (3 * side + i) 0)))

  pub sides-end : side ≡ i → all_below 128 s ≡ (ltb bits 128 && all_below 128 (drop (4 * side) s))
  unfolding all_below
  sides-end q =
      let e : side - i ≡ 0 = omega arith in
      let f : 3 * side + i ≡ 4 * side = omega arith in
      inv ∙ rw (e, f)
