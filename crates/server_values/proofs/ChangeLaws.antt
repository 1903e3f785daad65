-- What the code asks of a new value (whether it is a text, whether it is null, the 64 bits that it is stored as), and the two ways of storing it.
use mathlib.Core.Path.{◌≡◌, refl}
use mathlib.Core.List.{List, []}
use mathlib.Core.Bool.{Bool, true, false, not}
use Prim.Native.Nat.{ℕ}
use native.Mathlib.Omega.{arith}
use borrow.Author.Tests.{ne_eqb}
use lib.Dec.{eqb}
use lib.ListN.{length, get_or, set}
use Rattle.tlv_reader.specs.Octet.{pick}
use Rattle.tlv_reader.specs.declared.Value.{Value}
use Rattle.tlv_reader.specs.declared.Value.TheVariants as Parsed
use Rattle.tlv_reader.specs.Value.{Datum, null, boolean, unsigned, signed, float, text, other, datum_in}
use Rattle.node_kinds.specs.Limits.{is_null, null_of}
use Rattle.node_kinds.specs.Stored.{word_of, equal, next_version}
use Rattle.node_schema.specs.Rows.{attribute_row}
use Rattle.node_plan.specs.Pages.{shown_length}
use Rattle.server_values.specs.declared.Values.{Values}
use Rattle.server_values.specs.Change.{text_of, is_text, word_for, mark_for, differs_from, changes, set_at, edits_set, stored_values, stored_edits}

-- a value of another variant than Text is no text
pub no_text : (v : Value) → ((a n : ℕ) → v ≡ Parsed.Text a n → ⊥) → (s : List ℕ) → false ≡ is_text (datum_in s v)
no_text Parsed.Null h s = refl
no_text (Parsed.Boolean b) h s = refl
no_text (Parsed.Unsigned n) h s = refl
no_text (Parsed.Signed z) h s = refl
no_text (Parsed.Float n) h s = refl
no_text (Parsed.Text a n) h s = absurd (h a n refl)
no_text Parsed.Other h s = refl

-- and has no bytes
pub no_bytes : (d : Datum) → is_text d ≡ false → text_of d ≡ []
no_bytes null h = refl
no_bytes (boolean b) h = refl
no_bytes (unsigned n) h = refl
no_bytes (signed z) h = refl
no_bytes (float n) h = refl
no_bytes (text b) h = cc
no_bytes other h = refl

-- a text's word is 0
pub text-word : (d : Datum) → is_text d ≡ true → 0 ≡ word_for d
unfolding word_for
text-word null h = cc
text-word (boolean b) h = cc
text-word (unsigned n) h = cc
text-word (signed z) h = cc
text-word (float n) h = cc
text-word (text b) h = refl
text-word other h = cc

-- null is no text, and its word is 0
pub null-no-text : (d : Datum) → is_null d ≡ true → is_text d ≡ false
null-no-text null h = refl
null-no-text (boolean b) h = refl
null-no-text (unsigned n) h = refl
null-no-text (signed z) h = refl
null-no-text (float n) h = refl
null-no-text (text b) h = cc
null-no-text other h = refl

pub null_word_lem : (d : Datum) → is_null d ≡ true → word_for d ≡ 0
unfolding word_for
null_word_lem null h = refl
null_word_lem (boolean b) h = cc
null_word_lem (unsigned n) h = cc
null_word_lem (signed z) h = cc
null_word_lem (float n) h = cc
null_word_lem (text b) h = cc
null_word_lem other h = cc

-- the length that a stored text is shown with, whatever its factory text has
pub mark-length : (d : Datum) (len : ℕ) → shown_length len (mark_for d) ≡ length (text_of d)
mark-length d len =
    let c : eqb (mark_for d) 0 ≡ false = ne_eqb (mark_for d) 0 (λ q. omega (arith, q)) in
    rw c (omega arith)

-- any other value as the word that it is
pub plain_word : (s : List ℕ) (v : Value) → is_text (datum_in s v) ≡ false → word_of v ≡ word_for (datum_in s v)
unfolding word_for word_of
plain_word s Parsed.Null h = refl
plain_word s (Parsed.Boolean b) h = refl
plain_word s (Parsed.Unsigned n) h = refl
plain_word s (Parsed.Signed z) h = refl
plain_word s (Parsed.Float n) h = refl
plain_word s (Parsed.Text a n) h = cc
plain_word s Parsed.Other h = refl

-- null is null in every message
pub null-in : (s : List ℕ) (v : Value) → null_of v ≡ is_null (datum_in s v)
null-in s Parsed.Null = refl
null-in s (Parsed.Boolean b) = refl
null-in s (Parsed.Unsigned n) = refl
null-in s (Parsed.Signed z) = refl
null-in s (Parsed.Float n) = refl
null-in s (Parsed.Text a n) = refl
null-in s Parsed.Other = refl

-- ---- a difference, test by test

module _ (word : ℕ) (held : Bool) (shown : List ℕ) (d : Datum) where
  pub from_null : held ≡ true → not (is_null d) ≡ differs_from word held shown d
  unfolding differs_from
  from_null h = rw h

  pub to-null : held ≡ false → is_null d ≡ true → true ≡ differs_from word held shown d
  unfolding differs_from
  to-null h n = rw (h, n)

  pub text-differs : held ≡ false → is_null d ≡ false → is_text d ≡ true → not (equal shown (text_of d)) ≡ differs_from word held shown d
  unfolding differs_from
  text-differs h n t = rw (h, n, t)

  pub word-differs : held ≡ false → is_null d ≡ false → is_text d ≡ false → not (eqb word (word_for d)) ≡ differs_from word held shown d
  unfolding differs_from
  word-differs h n t = rw (h, n, t)

-- ---- the new values

-- the marks, a text's mark set
abbrev pub marks_set : List ℕ → ℕ → Datum → List ℕ
marks_set texts r d = pick (is_text d) (set texts r (mark_for d)) texts

pub set-whole : (w : List ℕ) (v : Values) (i : ℕ) (d : Datum) {word k r next : ℕ} {n : Bool} {texts : List ℕ} →
    word ≡ word_for d → n ≡ is_null d → r ≡ (attribute_row w i).first → texts ≡ marks_set v.texts r d → k ≡ (attribute_row w i).index_of_cluster → next ≡ next_version (get_or v.versions k 0) →
    record { words = set v.words i word; nulls = set v.nulls i n; texts = texts; versions = set v.versions k next } ≡ set_at w v i d
unfolding set_at
set-whole w v i d {word} {k} {r} {next} {n} {texts} a b c e f g = rw (a, b, e, c, g, f)

-- ---- storing

module _ (w defaults edits : List ℕ) (v : Values) (i : ℕ) (d : Datum) where
  -- no change moves nothing
  pub nothing-moves : changes w defaults edits v i d ≡ false → (v ≡ stored_values w defaults edits v i d) × (edits ≡ stored_edits w defaults edits v i d)
  unfolding stored_values stored_edits
  nothing-moves c = (rw c, rw c)

  -- a change moves the value and the text
  pub change-moves : changes w defaults edits v i d ≡ true → (x : Values) (l : List ℕ) → x ≡ set_at w v i d → l ≡ edits_set w edits i d → (x ≡ stored_values w defaults edits v i d) × (l ≡ stored_edits w defaults edits v i d)
  unfolding stored_values stored_edits
  change-moves c x l e f = (rw c e, rw c f)
