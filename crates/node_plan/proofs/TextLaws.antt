-- The texts of an accepted schema: each has a place of its own, and what was judged fits.
use mathlib.Core.Path.{◌≡◌, refl, sym, ◌∙◌}
use mathlib.Core.Bool.{Bool, true, false}
use mathlib.Core.List.{List}
use Prim.Native.Nat.{ℕ, ◌+◌, ◌*◌, ◌-◌, ◌≤◌, ◌<◌}
use native.Mathlib.Omega.{arith}
use borrow.Author.Tests.{leb-true, ltb-true, ltb-false}
use lib.Dec.{leb, ltb}
use lib.ListN.{length, take, drop}
use Rattle.base_bounds.specs.Bounds.{text_bytes_limit}
use Rattle.base_utf8.specs.WellFormed.{well_formed}
use Rattle.tlv_reader.specs.declared.Value.TheVariants as Parsed
use Rattle.base_octets.specs.Store.{store}
use Rattle.node_kinds.specs.declared.Kind.TheVariants as Kinds
use Rattle.node_kinds.specs.declared.Verdict.TheVariants.{Success}
use Rattle.node_kinds.specs.Limits.{limited, inside, judged_in}
use Rattle.node_kinds.proofs.LimitLaws.{text-verdict, present-verdict}
use Rattle.node_schema.specs.Layout.{text_size}
use Rattle.node_schema.specs.Rows.{attribute_row, count_of_attributes, is_text}
use Rattle.node_schema.specs.Check.{count_of_texts}
use Rattle.node_schema.specs.Rules.{Rules}
use Rattle.node_schema.proofs.BoolLaws.{left, right, by-test}
use Rattle.node_schema.proofs.TextLaws.{text-inside, texts-apart}
use Rattle.node_plan.specs.Pages.{place, shown_text}
use Rattle.node_plan.proofs.PageLaws.{others-stay}

-- ---- a text that passed the verdict

within : (b : Bool) → limited b ≡ Success → b ≡ true
within true h = refl
within false h = cc

-- it lies in its message, is no longer than a place, and well-formed
pub record Judged (s : List ℕ) (a n : ℕ) : Type 0 where
  pub inside : a + n ≤ length s
  pub size : n ≤ text_size
  pub valid : well_formed (take n (drop a s)) ≡ true

pub judged-text : (s : List ℕ) (nullable : Bool) (a n : ℕ) → judged_in s Kinds.Text nullable (Parsed.Text a n) ≡ Success → Judged s a n
judged-text s nullable a n h =
    let t = within _ (sym (text-verdict s a n) ∙ sym (present-verdict s Kinds.Text nullable (Parsed.Text a n) refl) ∙ h) in
    let t₁ = right (leb n text_bytes_limit) _ t in
    let i = left _ _ t₁ in
    let p : n ≤ length s = leb-true _ _ (left _ _ i) in
    let q : a ≤ length s - n = leb-true _ _ (right (leb n (length s)) _ i) in
    record {
      inside = omega arith;
      size = leb-true n text_bytes_limit (left _ _ t);
      valid = right (inside s (Parsed.Text a n)) _ t₁;
    }

-- ---- the places of a schema's texts in a page of edits of its size

-- attribute i is a text of the schema
abbrev pub TextAt : List ℕ → ℕ → Type 0
TextAt w i = (i < count_of_attributes w) × (is_text (attribute_row w i) ≡ true)

-- a text's rank
abbrev pub rank_of : List ℕ → ℕ → ℕ
rank_of w i = (attribute_row w i).first

module _ (w : List ℕ) (rules : Rules w) where
  pub ranks-apart : (i j : ℕ) → TextAt w i → TextAt w j → (i ≡ j → ⊥) → rank_of w i ≡ rank_of w j → ⊥
  ranks-apart i j ti tj n e =
      by-test (ltb i j) (λ t. omega (arith, e, texts-apart w rules i j (ltb-true i j t) tj.0 ti.1 tj.1))
      (λ t. omega (arith, e, texts-apart w rules j i (omega (arith, ltb-false i j t, n)) ti.0 tj.1 ti.1))

  -- a text of at most 200 bytes fits its place
  pub place-fits : (i n : ℕ) → TextAt w i → n ≤ text_size → place (rank_of w i) + n ≤ text_size * count_of_texts w
  place-fits i n t short = omega (arith, text-inside w rules i t.0 t.1, short)

  -- storing the text of one attribute leaves every other attribute's shown text as it was
  pub text-stays : (defaults edits text : List ℕ) (i j start len mark : ℕ) → TextAt w i → TextAt w j → (j ≡ i → ⊥) → length text ≤ text_size → mark ≤ text_size + 1 → shown_text defaults (store edits (place (rank_of w i)) text) start len (rank_of w j) mark ≡ shown_text defaults edits start len (rank_of w j) mark
  text-stays defaults edits text i j start len mark ti tj n size short =
      others-stay defaults edits (rank_of w i) text size start len (rank_of w j) mark (ranks-apart j i tj ti n) short
