-- Parts of a well-formed page: well-formed exactly if they are cut at boundaries.
use mathlib.Core.Path.{◌≡◌, refl, sym, ap, ◌∙◌}
use mathlib.Core.Bool.{Bool, true, false, not, ◌&&◌, ◌||◌, false≢true}
use mathlib.Core.List.{List, [], ◌∷◌}
use Prim.Native.Nat.{ℕ, zero, suc, ◌+◌, ◌≤◌, ◌<◌}
use native.Mathlib.Omega.{arith}
use borrow.Author.Tests.{leb-true, ltb-true, le-leb, ne_eqb}
use lib.Dec.{leb, ltb, eqb}
use lib.ListN.{length, get_or, take, drop, get_or-eq_default}
use lib.Seq.{get_or-drop}
use Rattle.base_utf8.specs.WellFormed.{Range, within, table, trailing, completes, well_formed}
use Rattle.base_utf8.specs.Bytewise.{trails}
use Rattle.base_utf8.specs.Boundary.{boundary, cut_well}
use Rattle.base_utf8.proofs.Lines.{and_l, and_r, and-true, low, high, no_line, by-line}
use Rattle.base_utf8.proofs.Bytewise.{dead}

-- ---- what is to come after a first byte are trailing bytes

-- a range has none but trailing bytes, or no byte; so has each of some
abbrev narrow : Range → Bool
narrow r = ltb r.1 r.0 || (leb 0x80 r.0 && leb r.1 0xBF)

abbrev inner : List Range → Bool
inner [] = true
inner (r ∷ rs) = narrow r && inner rs

inner-trailing : (a : ℕ) → inner (trailing a) ≡ true
unfolding trailing table
inner-trailing a =
    by-line (λ rs. inner rs ≡ true) a table ((λ _. refl), ((λ _. refl), ((λ _. refl), ((λ _. refl), ((λ _. refl), ((λ _. refl), ((λ _. refl), ((λ _. refl), ((λ _. refl), refl)))))))))

-- so a byte that is in the next range trails
in-trails : (r : Range) (rs : List Range) (b : ℕ) → inner (r ∷ rs) ≡ true → within r b ≡ true → trails b ≡ true
unfolding trails
in-trails r rs b i w = go (ltb r.1 r.0) refl (and_l (narrow r) (inner rs) i)
  where
    go : (t : Bool) → ltb r.1 r.0 ≡ t → (t || (leb 0x80 r.0 && leb r.1 0xBF)) ≡ true → trails b ≡ true
    go true e f = absurd (omega (arith, ltb-true r.1 r.0 e, low r b w, high r b w))
    go false e f =
        rw (
          le-leb 0x80 b (omega (arith, leb-true 0x80 r.0 (and_l _ _ f), low r b w)),
          le-leb b 0xBF (omega (arith, leb-true r.1 0xBF (and_r (leb 0x80 r.0) _ f), high r b w)),
        )

-- and a trailing byte begins no sequence
no-first : (b : ℕ) (s : List ℕ) → trails b ≡ true → completes (trailing b) s ≡ false
unfolding trails table
no-first b s t =
    let l = leb-true 0x80 b (and_l (leb 0x80 b) (leb b 0xBF) t) in
    let h = leb-true b 0xBF (and_r (leb 0x80 b) (leb b 0xBF) t) in
    rw (no_line 0x80 0xC0 b l (omega arith) refl) (dead s)

-- ---- the walk over a page, of which rs is to come first

-- the next byte trails exactly if something is to come
next : (rs : List Range) (s : List ℕ) → inner rs ≡ true → completes rs s ≡ true → completes rs [] ≡ not (trails (get_or s 0 0))
unfolding completes trails
next [] [] i h = refl
next [] (a ∷ s) i h = go (trails a) refl
  where
    go : (t : Bool) → trails a ≡ t → true ≡ not (trails a)
    go true e = absurd (false≢true (sym (no-first a s e) ∙ h))
    go false e = rw e
next (r ∷ rs) [] i h = h
next (r ∷ rs) (b ∷ s) i h = rw (in-trails r rs b i (and_l (within r b) (completes rs s) h))

-- its first n bytes
first : (rs : List Range) (s : List ℕ) (n : ℕ) → inner rs ≡ true → completes rs s ≡ true → completes rs (take n s) ≡ not (trails (get_or s n 0))
unfolding completes trails
first rs s zero i h = next rs s i h
first rs [] (suc n) i h = h
first [] (b ∷ s) (suc n) i h = first (trailing b) s n (inner-trailing b) h
first (r ∷ rs) (b ∷ s) (suc n) i h =
    rw (and_l (within r b) (completes rs s) h) (first rs s n (and_r (narrow r) (inner rs) i) (and_r (within r b) (completes rs s) h))

-- and those after them
rest : (rs : List Range) (s : List ℕ) (n : ℕ) → inner rs ≡ true → completes rs s ≡ true → completes [] (drop n s) ≡ not (trails (get_or s n 0))
unfolding completes trails
rest [] s zero i h = h ∙ next [] s i h
rest (r ∷ rs) [] zero i h = refl
rest (r ∷ rs) (b ∷ s) zero i h =
    let t = in-trails r rs b i (and_l (within r b) (completes rs s) h) in
    rw t (no-first b s t)
rest rs [] (suc n) i h = refl
rest [] (b ∷ s) (suc n) i h = rest (trailing b) s n (inner-trailing b) h
rest (r ∷ rs) (b ∷ s) (suc n) i h = rest rs s n (and_r (narrow r) (inner rs) i) (and_r (within r b) (completes rs s) h)

-- ---- A PAGE CUT IN TWO: each side is well-formed exactly if the place is a boundary
module _ (page : List ℕ) (at : ℕ) (h : well_formed page ≡ true) where
  pub cut-first : well_formed (take at page) ≡ boundary page at
  unfolding well_formed boundary
  cut-first = first [] page at refl h

  pub cut-rest : well_formed (drop at page) ≡ boundary page at
  unfolding well_formed boundary
  cut-rest = rest [] page at refl h

-- bytes that begin with a trailing one
no_start : (s : List ℕ) (n : ℕ) → trails (get_or s 0 0) ≡ true → well_formed (take (suc n) s) ≡ false
unfolding well_formed completes trails
no_start [] n t = sym t
no_start (b ∷ s) n t = no-first b (take n s) t

-- ---- THE LAW: a part of a well-formed page is well-formed exactly if it is cut at boundaries
pub cut-exactly : (page : List ℕ) (start len : ℕ) → well_formed page ≡ true → well_formed (take len (drop start page)) ≡ cut_well page start len
unfolding cut_well boundary well_formed completes
cut-exactly page start zero h = refl
cut-exactly page start (suc n) h = rw (ne_eqb (suc n) 0 (λ e. omega arith)) (go (trails (get_or page start 0)) refl)
  where
    go : (t : Bool) → trails (get_or page start 0) ≡ t → well_formed (take (suc n) (drop start page)) ≡ (not t && boundary page (start + suc n))
    go true e = let z : start + 0 ≡ start = omega arith in no_start (drop start page) n (rw (get_or-drop start page 0 0, z) e)
    go false e = cut-first (drop start page) (suc n) (cut-rest page start h ∙ ap not e) ∙ ap (λ (b : ℕ). not (trails b)) (get_or-drop start page (suc n) 0)

-- ---- a part that reaches past the end of the page, which is a boundary
or-true : (x : Bool) → (x || true) ≡ true
or-true true = refl
or-true false = refl

or-false : (x : Bool) → (x || false) ≡ x
or-false true = refl
or-false false = refl

pub past_end : (page : List ℕ) (at : ℕ) → length page ≤ at → true ≡ boundary page at
unfolding boundary trails
past_end page at h = rw (get_or-eq_default page 0 h)

module _ (page : List ℕ) (start len : ℕ) where
  pub cut-past : length page ≤ start → true ≡ cut_well page start len
  unfolding cut_well
  cut-past h = rw (← past_end page start h, ← past_end page (start + len) (omega arith)) (sym (or-true (eqb len 0)))

  pub cut-long : start < length page → length page ≤ start + len → boundary page start ≡ cut_well page start len
  unfolding cut_well
  cut-long l h = rw (ne_eqb len 0 (λ e. omega arith), ← past_end page (start + len) (omega arith)) (sym (and-true (boundary page start)))

  -- a part that ends before its page does
  pub cut-wrong : (boundary page start && boundary page (start + len)) ≡ false → eqb len 0 ≡ cut_well page start len
  unfolding cut_well
  cut-wrong h = rw h (sym (or-false (eqb len 0)))

  pub cut_right : (boundary page start && boundary page (start + len)) ≡ true → true ≡ cut_well page start len
  unfolding cut_well
  cut_right h = rw h (sym (or-true (eqb len 0)))
