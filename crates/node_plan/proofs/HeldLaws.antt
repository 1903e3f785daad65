-- A first value and a value held, judged over the words of a row at once: the first value's rule and the held value's.
use mathlib.Core.Path.{◌≡◌, refl, sym, ap, ◌∙◌}
use mathlib.Core.Bool.{Bool, true, false, ◌&&◌, false≢true}
use Prim.Native.Nat.{ℕ, ◌+◌, ◌%◌, ◌≤◌, ◌<◌}
use native.Mathlib.Omega.{arith}
use borrow.Author.Tests.{ltb-true, lt-ltb, le-ltb}
use lib.Bits.{bit_or}
use lib.Dec.{leb, ltb}
use Rattle.node_kinds.specs.Float.{range_of, in_range, range_ok}
use Rattle.node_kinds.specs.Stored.{held}
use Rattle.node_schema.specs.Layout.{half}
use Rattle.node_schema.specs.Rows.{AttributeRow}
use Rattle.node_schema.proofs.BoolLaws.{both, left, right, by-test}
use Rattle.node_schema.proofs.RiseLaws.{or-under}
use Rattle.node_plan.specs.Attributes.{by_code, kind_of}
use Rattle.node_plan.specs.Check.{float_right, number_right}
use Rattle.node_plan.specs.Held.{floats_right, words_right}
use Rattle.node_plan.proofs.KindLaws.{other-code, kind-unsigned, kind-signed, kind-float, kind-text, kind-boolean}
use Rattle.node_plan.proofs.FirstLaws.{by_code_lem}

-- the code's comparisons: a code found between two is the lower one, and one past text's is boolean's
pub only : (k n : ℕ) → n ≤ k → k < n + 1 → k ≡ n
only k n l u = omega arith

pub past-text : {A : Type 0} (b u s f t : A) (k : ℕ) → 4 ≤ k → (k ≡ 4 → ⊥) → by_code b u s f t k ≡ b
past-text b u s f t k l n = other-code b u s f t k (λ q. omega arith) (λ q. omega arith) (λ q. omega arith) n

-- BOTH AT ONCE is the rule of the first value and that of the value held, where that is not null
pub both-rules : (a : AttributeRow) (nullable : Bool) (word : ℕ) → words_right a.kind a.low a.high a.first word ≡ (number_right a && held (kind_of a) nullable word false)
unfolding words_right floats_right number_right held
both-rules a nullable word =
    by_code_lem a.kind (λ e. rw (kind-unsigned a e, e)) (λ e. rw (kind-signed a e, e)) (λ e. rw (kind-float a e, e)) (λ e. rw (kind-text a e, e))
    (λ h₁ h₂ h₃ h₄. rw (kind-boolean a h₁ h₂ h₃ h₄, other-code _ _ _ _ _ a.kind h₁ h₂ h₃ h₄, other-code _ _ _ _ _ a.kind h₁ h₂ h₃ h₄))

-- as the code has the row's words
module _ (a : AttributeRow) (nullable : Bool) (word : ℕ) where
  pub present : (code low high first : ℕ) (r : Bool) → code ≡ a.kind → low ≡ a.low → high ≡ a.high → first ≡ a.first → r ≡ words_right code low high first word → r ≡ (number_right a && held (kind_of a) nullable word false)
  present code low high first r ek el eh ef h = h ∙ rw (ek, el, eh, ef) (both-rules a nullable word)

  pub present-boolean : (code first : ℕ) → code ≡ a.kind → first ≡ a.first → code < 1 → (leb first 1 && leb word 1) ≡ (number_right a && held (kind_of a) nullable word false)
  unfolding words_right
  present-boolean code first ek ef l =
      let e : a.kind ≡ 0 = omega (arith, ek, l) in
      present 0 a.low a.high first (leb first 1 && leb word 1) (sym e) refl refl ef refl

-- ---- the four words of a float

module _ (low high first word : ℕ) where
  abbrev joined : ℕ
  joined = bit_or (bit_or (bit_or low high) first) word

  joined-under : ltb joined half ≡ (((ltb low half && ltb high half) && ltb first half) && ltb word half)
  joined-under =
      or-under 32 (bit_or (bit_or low high) first) word
      ∙ ap (λ (b : Bool). b && ltb word half) (or-under 32 (bit_or low high) first ∙ ap (λ (b : Bool). b && ltb first half) (or-under 32 low high))

  pub all_under : joined < half → (low < half) × (high < half) × (first < half) × (word < half)
  all_under l =
      let h = sym joined-under ∙ lt-ltb joined half l in
      let h3 = left ((ltb low half && ltb high half) && ltb first half) (ltb word half) h in
      let h2 = left (ltb low half && ltb high half) (ltb first half) h3 in (
        ltb-true low half (left (ltb low half) (ltb high half) h2),
        ltb-true high half (right (ltb low half) (ltb high half) h2),
        ltb-true first half (right (ltb low half && ltb high half) (ltb first half) h3),
        ltb-true word half (right ((ltb low half && ltb high half) && ltb first half) (ltb word half) h),
      )

  under_all : floats_right low high first word ≡ true → ltb joined half ≡ true
  unfolding floats_right float_right
  under_all h =
      let f = left (float_right low high first) _ h in
      let f1 = right (ltb low half) _ f in
      let f2 = right (ltb high half) _ f1 in
      joined-under ∙ both _ _ (both _ _ (both _ _ (left (ltb low half) _ f) (left (ltb high half) _ f1)) (left (ltb first half) _ f2)) (left (ltb word half) _ (right (float_right low high first) _ h))

  pub floats-wide : half ≤ joined → false ≡ floats_right low high first word
  floats-wide l =
      by-test (floats_right low high first word) (λ t. absurd (false≢true (sym (le-ltb joined half l) ∙ under_all t))) (λ t. sym t)

  pub floats-narrow : joined < half → (range_ok low high first && in_range (range_of low high first) word) ≡ floats_right low high first word
  unfolding floats_right float_right
  floats-narrow l =
      let u = all_under l in
      let el : low % half ≡ low = omega (arith, u.0) in
      let eh : high % half ≡ high = omega (arith, u.1) in
      let ef : first % half ≡ first = omega (arith, u.2) in
      rw (el, eh, ef, lt-ltb low half u.0, lt-ltb high half u.1, lt-ltb first half u.2, lt-ltb word half u.3)
