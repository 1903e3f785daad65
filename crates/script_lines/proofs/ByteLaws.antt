-- Bytes of a line, from what stands at a place of it.
use Rattle.std.specs.Prelude.{Some, None}
use Rattle.std.proofs.lemmas.Option.{none-some}
use mathlib.Core.Path.{◌≡◌, refl, sym, ap, ◌∙◌}
use mathlib.Core.List.{List, [], ◌∷◌}
use mathlib.Core.Bool.{Bool, true, false}
use Prim.Native.Nat.{ℕ, suc, ◌+◌, ◌*◌, ◌-◌, ◌<◌, ◌≤◌, min}
use native.Mathlib.Omega.{arith}
use borrow.Author.Tests.{ltb-true, ltb-false, eq-eqb, ne_eqb}
use lib.Dec.{ltb}
use lib.ListN.{length, drop, get_or, set, length-drop, length-set}
use lib.Seq.{get_or-drop, drop-drop, set_out}
use Rattle.base_octets.specs.Store.{store}
use Rattle.script_lines.specs.declared.Scan.{Scan}
use Rattle.script_lines.specs.Numbers.{hex_digit}
use Rattle.script_lines.specs.Bytes.{byte_of, byte_in, are_bytes, bytes_in, bytes_read, rest_at, rest_kept}

-- no byte stands at the start
pub none_here : (l : List ℕ) → byte_in l ≡ None → (are_bytes l ≡ false) × (bytes_in l ≡ [])
unfolding are_bytes bytes_in
none_here [] h = (refl, refl)
none_here (a ∷ []) h = (refl, refl)
none_here (a ∷ b ∷ []) h = (rw h refl, rw h refl)
none_here (a ∷ b ∷ c ∷ cs) h = (rw h refl, rw h refl)

pub two_here : (l : List ℕ) (x : ℕ) → byte_in l ≡ Some x → 2 ≤ length l
two_here [] x h = absurd (none-some x h)
two_here (a ∷ []) x h = absurd (none-some x h)
two_here (a ∷ b ∷ cs) x h = omega arith

-- the last byte
pub last-here : (l : List ℕ) (x : ℕ) → byte_in l ≡ Some x → length l ≡ 2 → (are_bytes l ≡ true) × (bytes_in l ≡ x ∷ [])
unfolding are_bytes bytes_in
last-here [] x h n = absurd (omega arith)
last-here (a ∷ []) x h n = absurd (omega arith)
last-here (a ∷ b ∷ []) x h n = (rw h refl, rw h refl)
last-here (a ∷ b ∷ c ∷ cs) x h n = absurd (omega arith)

-- a byte with no space behind it
pub cut-here : (l : List ℕ) (x : ℕ) → byte_in l ≡ Some x → 3 ≤ length l → (get_or l 2 0 ≡ 32 → ⊥) → (are_bytes l ≡ false) × (bytes_in l ≡ x ∷ [])
unfolding are_bytes bytes_in
cut-here [] x h n s = absurd (omega arith)
cut-here (a ∷ []) x h n s = absurd (omega arith)
cut-here (a ∷ b ∷ []) x h n s = absurd (omega arith)
cut-here (a ∷ b ∷ c ∷ cs) x h n s = (rw (h, ne_eqb c 32 s) refl, rw (h, ne_eqb c 32 s) refl)

-- a byte, a space, and more
pub more-here : (l : List ℕ) (x : ℕ) → byte_in l ≡ Some x → 3 ≤ length l → get_or l 2 0 ≡ 32 → (are_bytes l ≡ are_bytes (drop 3 l)) × (bytes_in l ≡ x ∷ bytes_in (drop 3 l))
unfolding are_bytes bytes_in
more-here [] x h n s = absurd (omega arith)
more-here (a ∷ []) x h n s = absurd (omega arith)
more-here (a ∷ b ∷ []) x h n s = absurd (omega arith)
more-here (a ∷ b ∷ c ∷ cs) x h n s = (rw (h, eq-eqb c 32 s) refl, rw (h, eq-eqb c 32 s) refl)

pub short-here : (l : List ℕ) → length l < 2 → byte_in l ≡ None
short-here [] h = refl
short-here (a ∷ []) h = refl
short-here (a ∷ b ∷ cs) h = absurd (omega arith)

-- the byte at the start of a list of two at least
byte-here : (l : List ℕ) → 2 ≤ length l → byte_in l ≡ byte_of (get_or l 0 0) (get_or l 1 0)
byte-here [] h = absurd (omega arith)
byte-here (a ∷ []) h = absurd (omega arith)
byte-here (a ∷ b ∷ cs) h = refl

module _ (l : List ℕ) (h : 2 ≤ length l) where
  pub byte-high : hex_digit (get_or l 0 0) ≡ None → byte_in l ≡ None
  unfolding byte_of
  byte-high e = rw (byte-here l h, e) refl

  pub byte-low : (n : ℕ) → hex_digit (get_or l 0 0) ≡ Some n → hex_digit (get_or l 1 0) ≡ None → byte_in l ≡ None
  unfolding byte_of
  byte-low n e f = rw (byte-here l h, e, f) refl

  pub byte-both : (n m : ℕ) → hex_digit (get_or l 0 0) ≡ Some n → hex_digit (get_or l 1 0) ≡ Some m → byte_in l ≡ Some (n * 16 + m)
  unfolding byte_of
  byte-both n m e f = rw (byte-here l h, e, f) refl

-- a full buffer stays as it is
full : (l : List ℕ) (at : ℕ) (bs : List ℕ) → length l ≤ at → store l at bs ≡ l
unfolding store
full l at [] h = refl
full l at (b ∷ bs) h = rw (set_out l at b h) (full l (suc at) bs (omega arith))

-- how far the bytes of a line from a place on have been read into a buffer: what is left gives what all of them gave
pub record Reading (line : List ℕ) (from : ℕ) (old : List ℕ) (out : List ℕ) (n at : ℕ) : Type 0 where
  pub size : length out ≡ length old
  pub within : n ≤ length out
  pub readable : are_bytes (drop at line) ≡ are_bytes (drop from line)
  pub kept : store out n (bytes_in (drop at line)) ≡ store old 0 (bytes_in (drop from line))
  pub count : min (n + length (bytes_in (drop at line))) (length out) ≡ min (length (bytes_in (drop from line))) (length old)

pub reading-first : (line : List ℕ) (from : ℕ) (old : List ℕ) → Reading line from old old 0 from
reading-first line from old = record { size = refl; within = omega arith; readable = refl; kept = refl; count = ap (λ (k : ℕ). min k (length old)) (omega arith) }

-- a place past the last stays the last
clipped : (out : List ℕ) (n byte : ℕ) (bs : List ℕ) → n ≤ length out → store (set out n byte) (min (n + 1) (length out)) bs ≡ store (set out n byte) (suc n) bs
clipped out n byte bs h = go (ltb n (length out)) refl
  where
    go : (t : Bool) → ltb n (length out) ≡ t → store (set out n byte) (min (n + 1) (length out)) bs ≡ store (set out n byte) (suc n) bs
    go true e = let k : min (n + 1) (length out) ≡ suc n = omega (arith, ltb-true n (length out) e) in rw k
    go false e =
        let k = ltb-false n (length out) e in
        full (set out n byte) (min (n + 1) (length out)) bs (simp length-set (omega arith)) ∙ sym (full (set out n byte) (suc n) bs (simp length-set (omega arith)))

module _ {line : List ℕ} {from : ℕ} {old out : List ℕ} {n at : ℕ} (r : Reading line from old out n at) where
  -- nothing more can be read
  pub reading-none : byte_in (drop at line) ≡ None → (are_bytes (drop from line) ≡ false) × (out ≡ store old 0 (bytes_in (drop from line)))
  unfolding store
  reading-none h =
      let z = none_here (drop at line) h in
      (sym r.readable ∙ z.0, rw z.1 at r.kept)

  module _ (byte : ℕ) (e : byte_in (drop at line) ≡ Some byte) where
    -- the last byte
    pub reading-last : length line - at ≡ 2 → (are_bytes (drop from line) ≡ true) × (set out n byte ≡ store old 0 (bytes_in (drop from line))) × (min (n + 1) (length out) ≡ min (length (bytes_in (drop from line))) (length old))
    unfolding store
    reading-last k =
        let z = last-here (drop at line) byte e (length-drop at line ∙ k) in
        let b = z.1 in
        (sym r.readable ∙ z.0, rw b at r.kept, rw b at r.count)

    -- a byte with no space behind it
    pub reading-cut : at + 3 ≤ length line → (get_or line (at + 2) 0 ≡ 32 → ⊥) → (are_bytes (drop from line) ≡ false) × (set out n byte ≡ store old 0 (bytes_in (drop from line)))
    unfolding store
    reading-cut k s =
        let z = cut-here (drop at line) byte e (simp length-drop (omega arith)) (λ x. s (sym (get_or-drop at line 2 0) ∙ x)) in
        let b = z.1 in
        (sym r.readable ∙ z.0, rw b at r.kept)

    -- a byte and a space further
    pub reading-next : at + 3 ≤ length line → get_or line (at + 2) 0 ≡ 32 → Reading line from old (set out n byte) (min (n + 1) (length out)) (at + 3)
    unfolding store
    reading-next k s =
        let z = more-here (drop at line) byte e (simp length-drop (omega arith)) (get_or-drop at line 2 0 ∙ s) in
        let b : bytes_in (drop at line) ≡ byte ∷ bytes_in (drop (at + 3) line) = z.1 ∙ rw drop-drop refl in
        let c : store (set out n byte) (suc n) (bytes_in (drop (at + 3) line)) ≡ store old 0 (bytes_in (drop from line)) = rw b at r.kept in
        let m : min (n + suc (length (bytes_in (drop (at + 3) line)))) (length out) ≡ min (length (bytes_in (drop from line))) (length old) = rw b at r.count in
        record {
          size = length-set out n byte ∙ r.size;
          within = simp length-set (omega arith);
          readable = ap are_bytes (sym (drop-drop 3 at line)) ∙ (sym z.0 ∙ r.readable);
          kept = clipped out n byte (bytes_in (drop (at + 3) line)) r.within ∙ c;
          count = simp length-set (omega arith);
        }

-- what reading ends with
module _ (line : List ℕ) (s : Scan) (old : List ℕ) (more : s.more ≡ true) where
  pub ends-unread : are_bytes (drop s.at line) ≡ false → bytes_read 0 false ≡ rest_at line s (length old)
  unfolding rest_at
  ends-unread e = rw (more, e)

  pub ends_read : (n : ℕ) → are_bytes (drop s.at line) ≡ true → n ≡ min (length (bytes_in (drop s.at line))) (length old) → bytes_read n s.ok ≡ rest_at line s (length old)
  unfolding rest_at
  ends_read n e k = rw (more, e, ← k)

  pub ends-kept : {out : List ℕ} → out ≡ store old 0 (bytes_in (drop s.at line)) → out ≡ rest_kept line s old
  unfolding rest_kept
  ends-kept e = rw more e
