-- Laws of stored values: equal texts, what differs, what reads back, what holds.
use mathlib.Core.Path.{◌≡◌, refl, sym, ap, ◌∙◌}
use mathlib.Core.List.{List, [], ◌∷◌}
use mathlib.Core.Bool.{Bool, true, false, ◌&&◌}
use Prim.Native.Nat.{ℕ, zero, suc, ◌+◌, ◌%◌, ◌≤◌, ◌<◌}
use native.Mathlib.Omega.{arith}
use borrow.Author.Tests.{eq-eqb, eqb-true, lt-ltb, ltb-true, leb-true}
use lib.Dec.{leb, ltb, eqb}
use lib.ListN.{take, drop}
use lib.Pointwise.{pointwise}
use mir.Syntax.{w64}
use mir.Val.{Fits}
use mir.ValLaws.{to_z-of_z, of_z-to_z}
use Rattle.base_bounds.specs.Bounds.{text_bytes_limit}
use Rattle.tlv_reader.specs.declared.Value.{Value}
use Rattle.tlv_reader.specs.declared.Value.TheVariants.{Null, Boolean, Unsigned, Signed, Float, Text, Other}
use Rattle.base_utf8.specs.WellFormed.{well_formed}
use Rattle.node_kinds.specs.declared.Kind.{Kind}
use Rattle.node_kinds.specs.declared.Kind.TheVariants as Kinds
use Rattle.node_kinds.specs.declared.Verdict.TheVariants.{Success}
use Rattle.node_kinds.specs.Float.{in_range}
use Rattle.node_kinds.specs.Limits.{limited, against, against_in, null_of, inside, judged_in}
use Rattle.node_kinds.specs.Stored.{word_of, value_from, held, equal, next_version, Sized}
use Rattle.node_kinds.proofs.LimitLaws.{Fit, fit, also-wrong, text-verdict}
use Rattle.node_kinds.proofs.LimitLaws.Fit.{boolean, unsigned, signed, float, text, apart}

-- ---- texts

pub equal-same : (a : List ℕ) → equal a a ≡ true
unfolding equal
equal-same [] = refl
equal-same (x ∷ a) = rw (eq-eqb x x refl) (equal-same a)

-- "true exactly if the lists are equal": this half, and `equal-same`
pub equal-eq : (a b : List ℕ) → equal a b ≡ true → a ≡ b
unfolding equal
equal-eq [] [] h = refl
equal-eq [] (y ∷ b) h = cc
equal-eq (x ∷ a) [] h = cc
equal-eq (x ∷ a) (y ∷ b) h = go (eqb x y) refl (equal-eq a b) h
  where
    go : (t : Bool) → eqb x y ≡ t → (equal a b ≡ true → a ≡ b) → (t && equal a b) ≡ true → (x ∷ a) ≡ (y ∷ b)
    go true e rest k = cc (eqb-true x y e, rest k)
    go false e rest k = cc

-- it is what `==` says of two slices
pub equal-pointwise : (a b : List ℕ) → pointwise eqb a b ≡ equal a b
unfolding equal
equal-pointwise [] [] = refl
equal-pointwise [] (y ∷ b) = refl
equal-pointwise (x ∷ a) [] = refl
equal-pointwise (x ∷ a) (y ∷ b) = rw (equal-pointwise a b)

-- ---- Bool tests

both : (a b : Bool) → (a && b) ≡ true → (a ≡ true) × (b ≡ true)
both true b h = (refl, h)
both false b h = (h, cc)

all : (a b c : Bool) → a ≡ true → b ≡ true → c ≡ true → (a && (b && c)) ≡ true
all a b c p q r = rw (p, q) r

within : (b : Bool) → limited b ≡ Success → b ≡ true
within true h = refl
within false h = cc

-- ---- a value that passed the limits reads back as itself, a text at the place where it is shown

abbrev pub shown_at : ℕ → Value → Value
shown_at start Null = Null
shown_at start (Boolean b) = Boolean b
shown_at start (Unsigned n) = Unsigned n
shown_at start (Signed z) = Signed z
shown_at start (Float n) = Float n
shown_at start (Text a n) = Text start n
shown_at start Other = Other

module _ (s : List ℕ) (start : ℕ) where
  back : {k : Kind} {v : Value} → Fit s k v → Sized v → against_in s v k ≡ Success → value_from k (word_of v) false start ≡ shown_at start v
  unfolding value_from word_of
  back (boolean true) f h = refl
  back (boolean false) f h = refl
  back (unsigned low high n) f h = refl
  back (signed low high z) f h = ap Signed (to_z-of_z w64 z f)
  back (float r n) f h = ap Float (omega arith)
  back (text a n) f h = refl
  back {k} {v} (apart e) f h = cc (also-wrong (inside s v))

  pub reads-back : (k : Kind) (nullable : Bool) (v : Value) → Sized v → judged_in s k nullable v ≡ Success → value_from k (word_of v) (null_of v) start ≡ shown_at start v
  unfolding judged_in value_from word_of
  reads-back k nullable Null f h = refl
  reads-back k nullable (Boolean b) f h = back (fit s k (Boolean b)) f h
  reads-back k nullable (Unsigned n) f h = back (fit s k (Unsigned n)) f h
  reads-back k nullable (Signed z) f h = back (fit s k (Signed z)) f h
  reads-back k nullable (Float n) f h = back (fit s k (Float n)) f h
  reads-back k nullable (Text a n) f h = back (fit s k (Text a n)) f h
  reads-back k nullable Other f h = back (fit s k Other) f h

-- ---- and its limits allow it to be stored

module _ (s : List ℕ) (nullable : Bool) where
  kept : {k : Kind} {v : Value} → Fit s k v → Sized v → against_in s v k ≡ Success → held k nullable (word_of v) false ≡ true
  unfolding held word_of against
  kept (boolean true) f h = refl
  kept (boolean false) f h = refl
  kept (unsigned low high n) f h = within _ h
  kept (signed low high z) f h = rw (to_z-of_z w64 z f) (within _ h)
  kept (float r n) f h = rw (lt-ltb n 4294967296 f) (within (in_range r n) h)
  kept (text a n) f h =
      (both (leb n text_bytes_limit) (inside s (Text a n) && well_formed (take n (drop a s))) (within _ (sym (text-verdict s a n) ∙ h))).0
  kept {k} {v} (apart e) f h = cc (also-wrong (inside s v))

  pub accepted-held : (k : Kind) (v : Value) → Sized v → judged_in s k nullable v ≡ Success → held k nullable (word_of v) (null_of v) ≡ true
  unfolding judged_in held word_of
  accepted-held k Null f h = rw (within nullable h)
  accepted-held k (Boolean b) f h = kept (fit s k (Boolean b)) f h
  accepted-held k (Unsigned n) f h = kept (fit s k (Unsigned n)) f h
  accepted-held k (Signed z) f h = kept (fit s k (Signed z)) f h
  accepted-held k (Float n) f h = kept (fit s k (Float n)) f h
  accepted-held k (Text a n) f h = kept (fit s k (Text a n)) f h
  accepted-held k Other f h = kept (fit s k Other) f h

-- ---- what is stored and not null is of the kind's own type

-- ---- what holds is allowed: it passes the limits, if a text's bytes are those of a text

abbrev pub Shown : List ℕ → Kind → ℕ → ℕ → Type 0
Shown s k w start = k ≡ Kinds.Text → (inside s (Text start w) ≡ true) × (well_formed (take w (drop start s)) ≡ true)

narrow : (w : ℕ) → ltb w 4294967296 ≡ true → w % 4294967296 ≡ w
narrow w h = let l : w < 4294967296 = ltb-true w 4294967296 h in omega arith

pub held-allowed : (s : List ℕ) (k : Kind) (nullable : Bool) (w : ℕ) (is_null : Bool) (start : ℕ) → held k nullable w is_null ≡ true → Shown s k w start → judged_in s k nullable (value_from k w is_null start) ≡ Success
unfolding held value_from judged_in against
held-allowed s k nullable w true start h t = rw (both nullable (eqb w 0) h).0
held-allowed s Kinds.Boolean nullable w false start h t = refl
held-allowed s (Kinds.Unsigned low high) nullable w false start h t = ap limited h
held-allowed s (Kinds.Signed low high) nullable w false start h t = ap limited h
held-allowed s (Kinds.Float r) nullable w false start h t =
    let b = both (ltb w 4294967296) (in_range r w) h in
    ap limited (ap (in_range r) (narrow w b.0) ∙ b.1)
held-allowed s Kinds.Text nullable w false start h t =
    let p = t refl in
    text-verdict s start w
    ∙ ap limited (all (leb w text_bytes_limit) (inside s (Text start w)) (well_formed (take w (drop start s))) h p.0 p.1)

-- ---- a stored form is the form of its value: a value has one

pub stored-once : (k : Kind) (nullable : Bool) (w : ℕ) (is_null : Bool) (start : ℕ) → Fits w64 w → held k nullable w is_null ≡ true → (word_of (value_from k w is_null start) ≡ w) × (null_of (value_from k w is_null start) ≡ is_null)
unfolding held value_from word_of
stored-once k nullable w true start f h = (sym (eqb-true w 0 (both nullable (eqb w 0) h).1), refl)
stored-once Kinds.Boolean nullable zero false start f h = (refl, refl)
stored-once Kinds.Boolean nullable (suc zero) false start f h = (refl, refl)
stored-once Kinds.Boolean nullable (suc (suc w)) false start f h = let l = leb-true (suc (suc w)) 1 h in absurd (omega arith)
stored-once (Kinds.Unsigned low high) nullable w false start f h = (refl, refl)
stored-once (Kinds.Signed low high) nullable w false start f h = (of_z-to_z w64 w f, refl)
stored-once (Kinds.Float r) nullable w false start f h = (narrow w (both (ltb w 4294967296) (in_range r w) h).0, refl)
stored-once Kinds.Text nullable w false start f h = (refl, refl)

-- ---- a change

-- ---- versions

pub version-step : (v : ℕ) → v < 0xFFFF_FFFF → next_version v ≡ v + 1
unfolding next_version
version-step v h = omega arith

pub version-moves : (v : ℕ) → v ≤ 0xFFFF_FFFF → next_version v ≡ v → ⊥
unfolding next_version
version-moves v h e = omega arith
