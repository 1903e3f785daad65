-- A value that the verdict allows, by what it means: its stored form is allowed and means that very value, and a text fits its place.
use mathlib.Core.Path.{◌≡◌, refl, sym, ap, ap₂, ◌∙◌}
use mathlib.Core.List.{List}
use mathlib.Core.Bool.{Bool, true, false}
use Prim.Native.Nat.{ℕ, ◌≤◌}
use native.Mathlib.Omega.{arith}
use lib.ListN.{length}
use mir.Syntax.{w64}
use mir.ValLaws.{to_z-of_z}
use Rattle.tlv_reader.specs.declared.Value.{Value}
use Rattle.tlv_reader.specs.declared.Value.TheVariants as Parsed
use Rattle.tlv_reader.specs.Value.{Datum, datum_in}
use Rattle.base_utf8.specs.WellFormed.{well_formed, completes}
use Rattle.node_kinds.specs.declared.Kind.{Kind}
use Rattle.node_kinds.specs.declared.Kind.TheVariants as Kinds
use Rattle.node_kinds.specs.declared.Verdict.TheVariants.{Success}
use Rattle.node_kinds.specs.Limits.{is_null, inside, against, against_in, judged_in}
use Rattle.node_kinds.specs.Stored.{held, Sized}
use Rattle.node_kinds.proofs.LimitLaws.{Fit, fit, also-wrong}
use Rattle.node_kinds.proofs.LimitLaws.Fit.{boolean, unsigned, signed, float, text, apart}
use Rattle.node_kinds.proofs.StoredLaws.{accepted-held}
use Rattle.node_schema.specs.Layout.{text_size}
use Rattle.node_plan.proofs.TextLaws.{Judged, judged-text}
use Rattle.server_values.specs.Values.{held_datum}
use Rattle.server_values.specs.Change.{text_of, is_text, word_for}
use Rattle.server_values.specs.Storing.{Accepted}
use Rattle.server_values.proofs.ChangeLaws.{plain_word, null-in}
use Rattle.server_values.proofs.ValueLaws.{part_length, textual}

module _ (s : List ℕ) (nullable : Bool) where
  -- only a text's kind allows a text
  pub text-kind : (k : Kind) (a n : ℕ) → judged_in s k nullable (Parsed.Text a n) ≡ Success → k ≡ Kinds.Text
  unfolding judged_in against
  text-kind Kinds.Boolean a n h = cc (also-wrong (inside s (Parsed.Text a n)))
  text-kind (Kinds.Unsigned l u) a n h = cc (also-wrong (inside s (Parsed.Text a n)))
  text-kind (Kinds.Signed l u) a n h = cc (also-wrong (inside s (Parsed.Text a n)))
  text-kind (Kinds.Float r) a n h = cc (also-wrong (inside s (Parsed.Text a n)))
  text-kind Kinds.Text a n h = refl

  judged : (k : Kind) (a n : ℕ) → judged_in s k nullable (Parsed.Text a n) ≡ Success → Judged s a n
  judged k a n h = judged-text s nullable a n (rw (text-kind k a n h) at h)

  -- what it is stored as is within the limits: a number's word is that of what it means, a text's is 0
  plain-held : (k : Kind) (v : Value) → is_text (datum_in s v) ≡ false → Sized v → judged_in s k nullable v ≡ Success → held k nullable (word_for (datum_in s v)) (is_null (datum_in s v)) ≡ true
  plain-held k v t f h = sym (ap₂ (held k nullable) (plain_word s v t) (null-in s v)) ∙ accepted-held s nullable k v f h

  judged-held : (k : Kind) (v : Value) → Sized v → judged_in s k nullable v ≡ Success → held k nullable (word_for (datum_in s v)) (is_null (datum_in s v)) ≡ true
  unfolding held word_for
  judged-held k Parsed.Null f h = plain-held k Parsed.Null refl f h
  judged-held k (Parsed.Boolean b) f h = plain-held k (Parsed.Boolean b) refl f h
  judged-held k (Parsed.Unsigned n) f h = plain-held k (Parsed.Unsigned n) refl f h
  judged-held k (Parsed.Signed z) f h = plain-held k (Parsed.Signed z) refl f h
  judged-held k (Parsed.Float n) f h = plain-held k (Parsed.Float n) refl f h
  judged-held k (Parsed.Text a n) f h = rw (text-kind k a n h)
  judged-held k Parsed.Other f h = plain-held k Parsed.Other refl f h

  pub bytes-judged : (k : Kind) (v : Value) → judged_in s k nullable v ≡ Success → (length (text_of (datum_in s v)) ≤ text_size) × (well_formed (text_of (datum_in s v)) ≡ true)
  unfolding well_formed completes
  bytes-judged k Parsed.Null h = (omega arith, refl)
  bytes-judged k (Parsed.Boolean b) h = (omega arith, refl)
  bytes-judged k (Parsed.Unsigned n) h = (omega arith, refl)
  bytes-judged k (Parsed.Signed z) h = (omega arith, refl)
  bytes-judged k (Parsed.Float n) h = (omega arith, refl)
  bytes-judged k (Parsed.Text a n) h = let j = judged k a n h in (omega (arith, part_length s a n j.inside, j.size), j.valid)
  bytes-judged k Parsed.Other h = (omega arith, refl)

  present-back : {k : Kind} {v : Value} → Fit s k v → Sized v → against_in s v k ≡ Success → held_datum k (word_for (datum_in s v)) false (text_of (datum_in s v)) ≡ datum_in s v
  unfolding held_datum word_for
  present-back (boolean true) f h = refl
  present-back (boolean false) f h = refl
  present-back (unsigned low high n) f h = refl
  present-back (signed low high z) f h = ap Datum.signed (to_z-of_z w64 z f)
  present-back (float r n) f h = ap Datum.float (omega arith)
  present-back (text a n) f h = refl
  present-back {k} {v} (apart e) f h = cc (also-wrong (inside s v))

  means-back : (k : Kind) (v : Value) → Sized v → judged_in s k nullable v ≡ Success → held_datum k (word_for (datum_in s v)) (is_null (datum_in s v)) (text_of (datum_in s v)) ≡ datum_in s v
  unfolding judged_in held_datum
  means-back k Parsed.Null f h = refl
  means-back k (Parsed.Boolean b) f h = present-back (fit s k (Parsed.Boolean b)) f h
  means-back k (Parsed.Unsigned n) f h = present-back (fit s k (Parsed.Unsigned n)) f h
  means-back k (Parsed.Signed z) f h = present-back (fit s k (Parsed.Signed z)) f h
  means-back k (Parsed.Float n) f h = present-back (fit s k (Parsed.Float n)) f h
  means-back k (Parsed.Text a n) f h = present-back (fit s k (Parsed.Text a n)) f h
  means-back k Parsed.Other f h = present-back (fit s k Parsed.Other) f h

  -- what passed the verdict is accepted
  pub accepted : (k : Kind) (v : Value) → Sized v → judged_in s k nullable v ≡ Success → Accepted k nullable (datum_in s v)
  accepted k v f h =
      record {
        within = judged-held k v f h;
        back = means-back k v f h;
        size = (bytes-judged k v h).0;
        valid = (bytes-judged k v h).1;
      }

-- ---- what an accepted value is

held-text : (k : Kind) (word : ℕ) (shown : List ℕ) → is_text (held_datum k word false shown) ≡ textual k
unfolding held_datum
held-text Kinds.Boolean word shown = refl
held-text (Kinds.Unsigned l h) word shown = refl
held-text (Kinds.Signed l h) word shown = refl
held-text (Kinds.Float r) word shown = refl
held-text Kinds.Text word shown = refl

pub text-present : (d : Datum) → is_text d ≡ true → is_null d ≡ false
text-present Datum.null h = sym h
text-present (Datum.boolean b) h = refl
text-present (Datum.unsigned n) h = refl
text-present (Datum.signed z) h = refl
text-present (Datum.float n) h = refl
text-present (Datum.text b) h = refl
text-present Datum.other h = refl

-- a value that is not null is a text exactly if the kind is that of texts
pub own-kind : {k : Kind} {nullable : Bool} {d : Datum} → Accepted k nullable d → is_null d ≡ false → is_text d ≡ textual k
own-kind {k} {nullable} {d} a n = ap is_text (sym a.back) ∙ rw n (held-text k (word_for d) (text_of d))
