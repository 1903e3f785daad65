-- The value of an attribute, as the code has it and as it means: a text is what is shown.
use mathlib.Core.Path.{◌≡◌, refl, sym, ap, ◌∙◌}
use mathlib.Core.List.{List}
use mathlib.Core.Bool.{Bool, true, false}
use Prim.Native.Nat.{ℕ, ◌+◌, ◌≤◌, ◌<◌}
use native.Mathlib.Omega.{arith}
use borrow.Author.Tests.{eqb-true, eq-eqb, ltb-true, lt-ltb}
use lib.Dec.{ltb}
use lib.ListN.{length, get_or, take, drop, length-take, length-drop}
use lib.Seq.{take-length}
use Rattle.tlv_reader.specs.Octet.{pick}
use Rattle.tlv_reader.specs.Value.{Datum, datum_in}
use Rattle.tlv_writer.specs.Element.{InPage}
use Rattle.node_kinds.specs.declared.Kind.{Kind}
use Rattle.node_kinds.specs.declared.Kind.TheVariants as Kinds
use Rattle.node_kinds.specs.Limits.{by_kind}
use Rattle.node_kinds.specs.Stored.{value_from}
use Rattle.node_schema.specs.Layout.{text_limit}
use Rattle.node_schema.specs.Rows.{AttributeRow, attribute_row, is_text}
use Rattle.node_schema.proofs.BoolLaws.{by-test}
use Rattle.node_plan.specs.Attributes.{kind_of}
use Rattle.node_plan.proofs.KindLaws.{kind-text}
use Rattle.node_plan.proofs.FirstLaws.{text-code}
use Rattle.server_values.specs.Values.{mark_of, held_datum, value_at}

-- a rank that there is has its mark
pub mark-there : (texts : List ℕ) (r : ℕ) → r < text_limit → mark_of texts r ≡ get_or texts r 0
mark-there texts r l = rw (lt-ltb r text_limit l)

-- and one past the limit none
pub mark-ranked : (texts : List ℕ) (r : ℕ) → (mark_of texts r ≡ 0 → ⊥) → r < text_limit
mark-ranked texts r n = by-test (ltb r text_limit) (λ t. ltb-true r text_limit t) (λ t. absurd (n (rw t)))

-- a part that lies in its page is whole
pub part_length : (page : List ℕ) (start n : ℕ) → start + n ≤ length page → length (take n (drop start page)) ≡ n
part_length page start n h = simp (length-take, length-drop) (omega arith)

-- a kind is that of texts
abbrev pub textual : Kind → Bool
textual k = by_kind false (λ l h. false) (λ l h. false) (λ r. false) true k

pub is-textual : (k : Kind) → textual k ≡ true → k ≡ Kinds.Text
is-textual Kinds.Boolean h = cc
is-textual (Kinds.Unsigned l u) h = cc
is-textual (Kinds.Signed l u) h = cc
is-textual (Kinds.Float r) h = cc
is-textual Kinds.Text h = refl

-- a row is a text's exactly if its kind is
pub text-row : (a : AttributeRow) → is_text a ≡ textual (kind_of a)
text-row a =
    by-test (is_text a) (λ t. t ∙ sym (ap textual (kind-text a (eqb-true _ _ t))))
    (λ t. by-test (textual (kind_of a)) (λ k. eq-eqb _ _ (text-code a (is-textual (kind_of a) k)) ∙ sym k) (λ k. t ∙ sym k))

module _ (shown : List ℕ) (word : ℕ) where
  datum-shown : (k : Kind) (is_null : Bool) → datum_in shown (value_from k (pick (textual k) (length shown) word) is_null 0) ≡ held_datum k word is_null shown
  unfolding value_from held_datum
  datum-shown k true = refl
  datum-shown Kinds.Boolean false = refl
  datum-shown (Kinds.Unsigned l h) false = refl
  datum-shown (Kinds.Signed l h) false = refl
  datum-shown (Kinds.Float r) false = refl
  datum-shown Kinds.Text false = ap Datum.text (take-length shown)

  datum-inside : (k : Kind) (is_null : Bool) → InPage shown (value_from k (pick (textual k) (length shown) word) is_null 0)
  unfolding value_from
  datum-inside k true = tt
  datum-inside Kinds.Boolean false = tt
  datum-inside (Kinds.Unsigned l h) false = tt
  datum-inside (Kinds.Signed l h) false = tt
  datum-inside (Kinds.Float r) false = tt
  datum-inside Kinds.Text false = omega arith

-- for whatever is shown, so also for the shown text of attribute i
module _ (w : List ℕ) (i word : ℕ) (is_null : Bool) (shown : List ℕ) where
  -- the value means what is held
  pub value-shown : datum_in shown (value_at w i word is_null (length shown)) ≡ held_datum (kind_of (attribute_row w i)) word is_null shown
  unfolding value_at
  value-shown = rw (text-row (attribute_row w i)) (datum-shown shown word (kind_of (attribute_row w i)) is_null)

  -- and lies in what is shown
  pub value-in-page : InPage shown (value_at w i word is_null (length shown))
  unfolding value_at
  value-in-page = rw (text-row (attribute_row w i)) (datum-inside shown word (kind_of (attribute_row w i)) is_null)
