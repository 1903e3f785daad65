-- Laws of the verdicts: a value of another type, null, and a text's place in its message.
use mathlib.Core.Path.{◌≡◌, refl, sym, ap, ◌∙◌}
use mathlib.Core.List.{List, [], ◌∷◌}
use mathlib.Core.Bool.{Bool, true, false, ◌&&◌, cond}
use Prim.Native.Nat.{ℕ, ◌-◌, ◌≤◌}
use native.Mathlib.Omega.{arith}
use borrow.Author.Tests.{leb-true}
use lib.IntN.{ℤ}
use lib.Dec.{leb, eqb}
use lib.ListN.{length, take, drop, length-take, length-drop}
use Rattle.base_bounds.specs.Bounds.{text_bytes_limit}
use Rattle.tlv_reader.specs.declared.Value.{Value}
use Rattle.tlv_reader.specs.declared.Value.TheVariants as Parsed
use Rattle.tlv_reader.specs.Value.{Datum, datum_in}
use Rattle.base_utf8.specs.WellFormed.{well_formed}
use Rattle.node_kinds.specs.declared.Range.{Range}
use Rattle.node_kinds.specs.declared.Kind.{Kind}
use Rattle.node_kinds.specs.declared.Kind.TheVariants as Kinds
use Rattle.node_kinds.specs.declared.Verdict.TheVariants.{InvalidDataType}
use Rattle.node_kinds.specs.Limits.{limited, wrong, against, null_of, judged, inside, also, against_in, judged_in}

-- ---- a value's type and a kind: the kind's own type, or the wrong one

pub data Fit (s : List ℕ) : Kind → Value → Type 0 where
  boolean : (b : Bool) → Fit s Kinds.Boolean (Parsed.Boolean b)
  unsigned : (low high n : ℕ) → Fit s (Kinds.Unsigned low high) (Parsed.Unsigned n)
  signed : (low high z : ℤ) → Fit s (Kinds.Signed low high) (Parsed.Signed z)
  float : (r : Range) (n : ℕ) → Fit s (Kinds.Float r) (Parsed.Float n)
  text : (a n : ℕ) → Fit s Kinds.Text (Parsed.Text a n)
  apart : {k : Kind} {v : Value} → against (datum_in s v) k ≡ wrong → Fit s k v

pub fit : (s : List ℕ) (k : Kind) (v : Value) → Fit s k v
unfolding against
fit s k Parsed.Null = apart refl
fit s Kinds.Boolean (Parsed.Boolean b) = boolean b
fit s (Kinds.Unsigned l h) (Parsed.Boolean b) = apart refl
fit s (Kinds.Signed l h) (Parsed.Boolean b) = apart refl
fit s (Kinds.Float r) (Parsed.Boolean b) = apart refl
fit s Kinds.Text (Parsed.Boolean b) = apart refl
fit s Kinds.Boolean (Parsed.Unsigned n) = apart refl
fit s (Kinds.Unsigned l h) (Parsed.Unsigned n) = unsigned l h n
fit s (Kinds.Signed l h) (Parsed.Unsigned n) = apart refl
fit s (Kinds.Float r) (Parsed.Unsigned n) = apart refl
fit s Kinds.Text (Parsed.Unsigned n) = apart refl
fit s Kinds.Boolean (Parsed.Signed z) = apart refl
fit s (Kinds.Unsigned l h) (Parsed.Signed z) = apart refl
fit s (Kinds.Signed l h) (Parsed.Signed z) = signed l h z
fit s (Kinds.Float r) (Parsed.Signed z) = apart refl
fit s Kinds.Text (Parsed.Signed z) = apart refl
fit s Kinds.Boolean (Parsed.Float n) = apart refl
fit s (Kinds.Unsigned l h) (Parsed.Float n) = apart refl
fit s (Kinds.Signed l h) (Parsed.Float n) = apart refl
fit s (Kinds.Float r) (Parsed.Float n) = float r n
fit s Kinds.Text (Parsed.Float n) = apart refl
fit s Kinds.Boolean (Parsed.Text a n) = apart refl
fit s (Kinds.Unsigned l h) (Parsed.Text a n) = apart refl
fit s (Kinds.Signed l h) (Parsed.Text a n) = apart refl
fit s (Kinds.Float r) (Parsed.Text a n) = apart refl
fit s Kinds.Text (Parsed.Text a n) = text a n
fit s k Parsed.Other = apart refl

-- a parsed value that is not of the kind's own type
abbrev pub NotOwn : Kind → Value → Type 0
NotOwn Kinds.Boolean v = (b : Bool) → v ≡ Parsed.Boolean b → ⊥
NotOwn (Kinds.Unsigned low high) v = (n : ℕ) → v ≡ Parsed.Unsigned n → ⊥
NotOwn (Kinds.Signed low high) v = (z : ℤ) → v ≡ Parsed.Signed z → ⊥
NotOwn (Kinds.Float r) v = (n : ℕ) → v ≡ Parsed.Float n → ⊥
NotOwn Kinds.Text v = (a n : ℕ) → v ≡ Parsed.Text a n → ⊥

-- the variants of a parsed value but one
abbrev pub all_but : ℕ → List ℕ → List ℕ
all_but k [] = []
all_but k (j ∷ js) = cond (eqb j k) js (j ∷ all_but k js)

abbrev pub variants : List ℕ
variants = 0 ∷ 1 ∷ 2 ∷ 3 ∷ 4 ∷ 5 ∷ 6 ∷ []

other-type : {s : List ℕ} {k : Kind} {v : Value} → Fit s k v → NotOwn k v → wrong ≡ against (datum_in s v) k
other-type (boolean b) h = absurd (h b refl)
other-type (unsigned low high n) h = absurd (h n refl)
other-type (signed low high z) h = absurd (h z refl)
other-type (float r n) h = absurd (h n refl)
other-type (text a n) h = absurd (h a n refl)
other-type (apart e) h = sym e

pub also-wrong : (b : Bool) → also b wrong ≡ wrong
also-wrong true = refl
also-wrong false = refl

pub another-type : (s : List ℕ) (k : Kind) (v : Value) → NotOwn k v → wrong ≡ against_in s v k
another-type s k v h = sym (also-wrong (inside s v)) ∙ ap (also (inside s v)) (other-type (fit s k v) h)

-- ---- a text

also-limited : (i b : Bool) → also i (limited b) ≡ limited (i && b)
also-limited true b = refl
also-limited false true = refl
also-limited false false = refl

-- inside the message the part has the text's length; outside there is no success
placed : (i : Bool) (m n t : ℕ) (w : Bool) → (i ≡ true → m ≡ n) → (i && (leb m t && w)) ≡ (leb n t && (i && w))
placed true m n t w h = rw (h refl)
placed false m n t w h = sym (and-false (leb n t))
  where
    and-false : (b : Bool) → (b && false) ≡ false
    and-false true = refl
    and-false false = refl

part_length : (s : List ℕ) (a n : ℕ) → inside s (Parsed.Text a n) ≡ true → length (take n (drop a s)) ≡ n
part_length s a n h = go (leb n (length s)) (leb a (length s - n)) refl refl h
  where
    go : (x y : Bool) → leb n (length s) ≡ x → leb a (length s - n) ≡ y → (x && y) ≡ true → length (take n (drop a s)) ≡ n
    go true true p q e =
        let f : n ≤ length s = leb-true n (length s) p in
        let g : a ≤ length s - n = leb-true a (length s - n) q in
        simp (length-take, length-drop) (omega arith)
    go true false p q e = let z : ◌≡◌ {A = ℕ} 0 1 = cc in absurd (omega arith)
    go false y p q e = let z : ◌≡◌ {A = ℕ} 0 1 = cc in absurd (omega arith)

-- the verdict on a text by the tests of its length and place, and of its bytes
pub text-verdict : (s : List ℕ) (a n : ℕ) → against_in s (Parsed.Text a n) Kinds.Text ≡ limited (leb n text_bytes_limit && (inside s (Parsed.Text a n) && well_formed (take n (drop a s))))
unfolding against
text-verdict s a n =
    also-limited (inside s (Parsed.Text a n)) (leb (length (take n (drop a s))) text_bytes_limit && well_formed (take n (drop a s)))
    ∙ ap limited (placed (inside s (Parsed.Text a n)) (length (take n (drop a s))) n text_bytes_limit (well_formed (take n (drop a s))) (part_length s a n))

-- ---- null

-- null is judged by whether it is allowed, whatever the kind
pub null-verdict : (s : List ℕ) (k : Kind) (nullable : Bool) (v : Value) → null_of v ≡ true → judged_in s k nullable v ≡ limited nullable
unfolding judged_in
null-verdict s k nullable Parsed.Null h = refl
null-verdict s k nullable (Parsed.Boolean b) h = cc
null-verdict s k nullable (Parsed.Unsigned n) h = cc
null-verdict s k nullable (Parsed.Signed z) h = cc
null-verdict s k nullable (Parsed.Float n) h = cc
null-verdict s k nullable (Parsed.Text a n) h = cc
null-verdict s k nullable Parsed.Other h = cc

-- and any other value by its type and limits
pub present-verdict : (s : List ℕ) (k : Kind) (nullable : Bool) (v : Value) → null_of v ≡ false → judged_in s k nullable v ≡ against_in s v k
unfolding judged_in
present-verdict s k nullable Parsed.Null h = cc
present-verdict s k nullable (Parsed.Boolean b) h = refl
present-verdict s k nullable (Parsed.Unsigned n) h = refl
present-verdict s k nullable (Parsed.Signed z) h = refl
present-verdict s k nullable (Parsed.Float n) h = refl
present-verdict s k nullable (Parsed.Text a n) h = refl
present-verdict s k nullable Parsed.Other h = refl

-- TLV null never has the wrong type
pub null-never-wrong : (k : Kind) (nullable : Bool) → judged k nullable Datum.null ≡ InvalidDataType → ⊥
unfolding judged
null-never-wrong k true h = let z : ◌≡◌ {A = ℕ} 0 1 = cc in omega arith
null-never-wrong k false h = let z : ◌≡◌ {A = ℕ} 0 1 = cc in omega arith

-- ---- a value in its message

-- where a text lies in its message, the verdict is that on what the value means
pub inside-verdict : (s : List ℕ) (k : Kind) (nullable : Bool) (v : Value) → inside s v ≡ true → judged_in s k nullable v ≡ judged k nullable (datum_in s v)
unfolding judged_in
inside-verdict s k nullable v h = rw h
