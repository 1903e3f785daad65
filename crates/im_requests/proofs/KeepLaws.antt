-- The first of a list, kept in so many places.
use mathlib.Core.Path.{◌≡◌, refl, sym, ap, ◌∙◌}
use mathlib.Core.Bool.{Bool, true, false}
use mathlib.Core.List.{List, [], ◌∷◌, ◌++◌, map, append_assoc, append-nil}
use Prim.Native.Nat.{ℕ, zero, suc, ◌+◌, ◌*◌, ◌≤◌, ◌<◌}
use native.Mathlib.Nat.{suc-mul}
use native.Mathlib.Omega.{arith}
use borrow.Author.Tests.{lt-ltb, le-ltb, ltb-true, ltb-false}
use lib.ListN.{length, get_or, set, take, replicate, length-append, length-replicate}
use lib.Dec.{ltb}
use Rattle.base_octets.specs.Store.{store}
use Rattle.base_octets.proofs.StoreLaws.{store-store}
use Rattle.tlv_reader.specs.Octet.{pick}
use Rattle.im_requests.specs.Message.{snoc, first_of, keep_of, words_of, keep_more}

pub length-snoc : {A : Type 0} (l : List A) (a : A) → length (snoc l a) ≡ length l + 1
length-snoc l a = length-append l (a ∷ [])

pub length-first : {A : Type 0} (n : ℕ) (z : A) (l : List A) → length (first_of n z l) ≡ n
unfolding first_of
length-first zero z l = refl
length-first (suc n) z [] = ap suc (length-first n z [])
length-first (suc n) z (x ∷ l) = ap suc (length-first n z l)

pub first-none : {A : Type 0} (n : ℕ) (z : A) → first_of n z [] ≡ replicate n z
unfolding first_of
first-none zero z = refl
first-none (suc n) z = ap (λ r. z ∷ r) (first-none n z)

both-none : {A : Type 0} (b : Bool) → ◌≡◌ {A = List A} [] (pick b [] [])
both-none true = refl
both-none false = refl

-- one more of a list is one more kept, if there is room
pub keep_one : {A : Type 0} (n : ℕ) (z : A) (l : List A) (a : A) → first_of n z (snoc l a) ≡ keep_of n (first_of n z l) (length l) a
unfolding first_of
keep_one zero z [] a = both-none (ltb 0 0)
keep_one zero z (x ∷ l) a = both-none (ltb (suc (length l)) 0)
keep_one (suc n) z [] a = rw (lt-ltb 0 (suc n) (omega arith)) refl
keep_one (suc n) z (x ∷ l) a = ap (λ r. x ∷ r) (keep_one n z l a) ∙ go (ltb (length l) n) refl
  where
    go : (b : Bool) → ltb (length l) n ≡ b → x ∷ pick (ltb (length l) n) (set (first_of n z l) (length l) a) (first_of n z l) ≡ pick (ltb (suc (length l)) (suc n)) (x ∷ set (first_of n z l) (length l) a) (x ∷ first_of n z l)
    go true e = let h = ltb-true (length l) n e in rw (e, lt-ltb (suc (length l)) (suc n) (omega arith)) refl
    go false e = let h = ltb-false (length l) n e in rw (e, le-ltb (suc (length l)) (suc n) (omega arith)) refl

-- ---- a list in words

take_short : {A : Type 0} (n : ℕ) (l : List A) → length l ≤ n → take n l ≡ l
take_short zero [] h = refl
take_short zero (x ∷ l) h = absurd (omega arith)
take_short (suc n) [] h = refl
take_short (suc n) (x ∷ l) h = ap (λ r. x ∷ r) (take_short n l (omega arith))

take-over : {A : Type 0} (n : ℕ) (l : List A) (a : A) → n ≤ length l → take n (snoc l a) ≡ take n l
take-over zero l a h = refl
take-over (suc n) [] a h = absurd (omega arith)
take-over (suc n) (x ∷ l) a h = ap (λ r. x ∷ r) (take-over n l a (omega arith))

module _ {A : Type 0} (enc : A → List ℕ) where
  words_more : (l : List A) (a : A) → words_of enc (snoc l a) ≡ words_of enc l ++ enc a
  unfolding words_of
  words_more [] a = append-nil (enc a)
  words_more (x ∷ l) a = ap (λ r. enc x ++ r) (words_more l a) ∙ sym (append_assoc (enc x) (words_of enc l) (enc a))

  module _ (size : ℕ) (wide : (a : A) → length (enc a) ≡ size) where
    pub words-length : (l : List A) → length (words_of enc l) ≡ length l * size
    unfolding words_of
    words-length [] = omega arith
    words-length (x ∷ l) = omega (arith, length-append (enc x) (words_of enc l), wide x, words-length l, suc-mul (length l) size)

    -- one more of a list is one more stored, if there is room
    pub words-keep : (n : ℕ) (old : List ℕ) (l : List A) (a : A) → keep_more n size enc (store old 0 (words_of enc (take n l))) (length l) a ≡ store old 0 (words_of enc (take n (snoc l a)))
    words-keep n old l a = go (ltb (length l) n) refl
      where
        here : length (words_of enc l) ≡ 0 + length (words_of enc l)
        here = omega arith

        go : (b : Bool) → ltb (length l) n ≡ b → pick (ltb (length l) n) (store (store old 0 (words_of enc (take n l))) (length l * size) (enc a)) (store old 0 (words_of enc (take n l))) ≡ store old 0 (words_of enc (take n (snoc l a)))
        go true e =
            let h = ltb-true (length l) n e in
            rw (e, take_short n l (omega arith), take_short n (snoc l a) (omega (arith, length-snoc l a)), words_more l a, ← (words-length l))
            (ap (λ (p : ℕ). store (store old 0 (words_of enc l)) p (enc a)) here ∙ store-store old 0 (words_of enc l) (enc a))
        go false e = let h = ltb-false (length l) n e in rw (e, take-over n l a h) refl

-- ---- words that were clear, and what is read back of them

store-behind : (y : ℕ) (l : List ℕ) (at : ℕ) (bs : List ℕ) → store (y ∷ l) (suc at) bs ≡ y ∷ store l at bs
unfolding store
store-behind y l at [] = refl
store-behind y l at (b ∷ bs) = store-behind y (set l at b) (suc at) bs

store-through : (a b c d : List ℕ) → length a ≡ length c → store (a ++ b) 0 (c ++ d) ≡ c ++ store b 0 d
unfolding store
store-through [] b [] d e = refl
store-through [] b (y ∷ c) d e = absurd (omega (arith, e))
store-through (x ∷ a) b [] d e = absurd (omega (arith, e))
store-through (x ∷ a) b (y ∷ c) d e = store-behind y (a ++ b) 0 (c ++ d) ∙ ap (λ r. y ∷ r) (store-through a b c d (omega (arith, e)))

abbrev pub zeros : ℕ → List ℕ
zeros n = replicate n 0

zeros-more : (a b : ℕ) → zeros (a + b) ≡ zeros a ++ zeros b
zeros-more zero b = let e : zero + b ≡ b = omega arith in ap zeros e
zeros-more (suc a) b = let e : suc a + b ≡ suc (a + b) = omega arith in ap zeros e ∙ ap (λ (r : List ℕ). 0 ∷ r) (zeros-more a b)

pub words-map : {A B : Type 0} (β : A → B) (enc : B → List ℕ) (n : ℕ) (l : List A) → words_of (λ x. enc (β x)) (take n l) ≡ words_of enc (take n (map β l))
unfolding words_of
words-map β enc zero l = refl
words-map β enc (suc n) [] = refl
words-map β enc (suc n) (x ∷ l) = ap (λ r. enc (β x) ++ r) (words-map β enc n l)

module _ {A : Type 0} (enc : A → List ℕ) (size : ℕ) (wide : (a : A) → length (enc a) ≡ size) (z : A) (clear : enc z ≡ zeros size) where
  zeros-size : (n : ℕ) → zeros (suc n * size) ≡ zeros size ++ zeros (n * size)
  zeros-size n = let e : suc n * size ≡ size + n * size = omega (arith, suc-mul n size) in ap zeros e ∙ zeros-more size (n * size)

  -- the first n of a list, stored over words that were clear, are those that fill n places
  pub words-first : (n : ℕ) (l : List A) → store (zeros (n * size)) 0 (words_of enc (take n l)) ≡ words_of enc (first_of n z l)
  unfolding words_of first_of store
  words-first zero l = let e : 0 * size ≡ 0 = omega arith in ap zeros e
  words-first (suc n) [] = zeros-size n ∙ (λ j. sym clear j ++ (none n ∙ words-first n []) j)
    where
      none : (m : ℕ) → zeros (m * size) ≡ store (zeros (m * size)) 0 (words_of enc (take m []))
      none zero = refl
      none (suc m) = refl
  words-first (suc n) (x ∷ l) =
      ap (λ (r : List ℕ). store r 0 (enc x ++ words_of enc (take n l))) (zeros-size n)
      ∙ store-through (zeros size) (zeros (n * size)) (enc x) (words_of enc (take n l)) (length-replicate size 0 ∙ sym (wide x))
      ∙ ap (λ (r : List ℕ). enc x ++ r) (words-first n l)

-- a reader of the words of member k reads member k
pub words_back : {A : Type 0} (enc : A → List ℕ) (at : List ℕ → ℕ → A) → ((x : A) (r : List ℕ) → at (enc x ++ r) 0 ≡ x) → ((x : A) (r : List ℕ) (k : ℕ) → at (enc x ++ r) (suc k) ≡ at r k) → (l : List A) (k : ℕ) (z : A) → k < length l → at (words_of enc l) k ≡ get_or l k z
unfolding words_of
words_back enc at here behind [] k z h = absurd (omega arith)
words_back enc at here behind (x ∷ l) zero z h = here x (words_of enc l)
words_back enc at here behind (x ∷ l) (suc k) z h = behind x (words_of enc l) k ∙ words_back enc at here behind l k z (omega arith)
