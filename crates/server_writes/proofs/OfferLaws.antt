-- A value offered to an attribute: the cases of its verdict, and the room for what is stored.
use mathlib.Core.Path.{◌≡◌, sym, ap, ap₂, ◌∙◌}
use mathlib.Core.Bool.{Bool, true, true≢false}
use mathlib.Core.List.{List}
use Prim.Native.Nat.{ℕ, ◌+◌, ◌*◌, ◌≤◌, ◌<◌}
use native.Mathlib.Omega.{arith}
use lib.Dec.{eqb}
use lib.ListN.{length}
use Rattle.base_bounds.specs.Bounds.{cluster_limit}
use Rattle.tlv_reader.specs.declared.Value.{Value}
use Rattle.tlv_reader.specs.declared.Value.TheVariants as value
use Rattle.tlv_reader.specs.Value.{datum_in}
use Rattle.node_kinds.specs.declared.Kind.{Kind}
use Rattle.node_kinds.specs.declared.Verdict.{Verdict}
use Rattle.node_kinds.specs.declared.Verdict.TheVariants.{Success}
use Rattle.node_kinds.specs.Limits.{judged_in}
use Rattle.node_schema.specs.Layout.{text_limit, text_size}
use Rattle.node_schema.specs.Rows.{attribute_row, count_of_attributes}
use Rattle.node_schema.specs.Check.{count_of_texts}
use Rattle.node_schema.specs.Rules.{Rules}
use Rattle.node_schema.proofs.PathLaws.{cluster-there}
use Rattle.node_schema.proofs.TextLaws.{text-inside}
use Rattle.node_plan.specs.Attributes.{kind_of}
use Rattle.node_plan.specs.Pages.{place}
use Rattle.server_values.specs.Change.{text_of, is_text, TextFits}
use Rattle.server_values.proofs.ValueLaws.{textual, text-row}
use Rattle.server_values.proofs.AcceptedLaws.{text-kind, bytes-judged}
use Rattle.server_writes.specs.Offer.{HeldValues, by_verdict, stored_in, verdict_on, offered}

-- the verdict as the code asks for it
pub verdict-asked : (w : List ℕ) (i : ℕ) (src : List ℕ) (new : Value) {k : Kind} {nullable : Bool} {x : Verdict} → k ≡ kind_of (attribute_row w i) → nullable ≡ eqb (attribute_row w i).nullable 1 → x ≡ judged_in src k nullable new → verdict_on w i src new ≡ x
verdict-asked w i src new e f h = sym (h ∙ ap₂ (λ (k : Kind) (n : Bool). judged_in src k n new) e f)

-- and what it leads to
pub offered-by : (w defaults : List ℕ) (h : HeldValues) (i : ℕ) (src : List ℕ) (new : Value) {x : Verdict} → verdict_on w i src new ≡ x → offered w defaults h i src new ≡ by_verdict h (stored_in w defaults h i src new) x
unfolding offered
offered-by w defaults h i src new e = ap (by_verdict h (stored_in w defaults h i src new)) e

-- what `store` requires: a version to raise, and room for a text that passed
module _ (w : List ℕ) (rules : Rules w) (i : ℕ) (there : i < count_of_attributes w) where
  pub cluster-room : (attribute_row w i).index_of_cluster < cluster_limit
  cluster-room = omega (arith, cluster-there w rules i there)

  module _ (src edits : List ℕ) (size : length edits ≡ text_size * count_of_texts w) where
    abbrev Room : Value → Type 0
    Room new = (((attribute_row w i).first < text_limit) × (length (text_of (datum_in src new)) ≤ text_size)) × (place (attribute_row w i).first + text_size ≤ length edits)

    room : (a n : ℕ) → verdict_on w i src (value.Text a n) ≡ Success → Room (value.Text a n)
    room a n h =
        let k = kind_of (attribute_row w i) in
        let nullable = eqb (attribute_row w i).nullable 1 in
        let t = text-row (attribute_row w i) ∙ ap textual (text-kind src nullable k a n h) in
        let r = text-inside w rules i there t in
        ((omega (arith, r, rules.text_number), (bytes-judged src nullable k (value.Text a n) h).0), omega (arith, size, r))

    some-room : (new : Value) → verdict_on w i src new ≡ Success → is_text (datum_in src new) ≡ true → Room new
    some-room value.Null h t = absurd (true≢false (sym t))
    some-room (value.Boolean b) h t = absurd (true≢false (sym t))
    some-room (value.Unsigned n) h t = absurd (true≢false (sym t))
    some-room (value.Signed z) h t = absurd (true≢false (sym t))
    some-room (value.Float n) h t = absurd (true≢false (sym t))
    some-room (value.Text a n) h t = room a n h
    some-room value.Other h t = absurd (true≢false (sym t))

    pub text-room : (new : Value) → verdict_on w i src new ≡ Success → TextFits edits (attribute_row w i).first (datum_in src new)
    text-room new h = (λ t. (some-room new h t).0, λ t. (some-room new h t).1)
