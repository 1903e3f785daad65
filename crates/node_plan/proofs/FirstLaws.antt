-- The check of a row and its rules agree.
use mathlib.Core.Path.{◌≡◌, sym, ap, ◌∙◌}
use mathlib.Core.Bool.{true, false}
use mathlib.Core.List.{List}
use Prim.Native.Nat.{ℕ, ◌+◌, ◌%◌, ◌≤◌}
use native.Mathlib.Omega.{arith}
use borrow.Author.Tests.{eqb-true, eqb-false, ne_eqb, leb-true, le-leb, ltb-true, lt-ltb}
use lib.Dec.{eqb, leb, ltb}
use lib.ListN.{length}
use Rattle.base_bounds.specs.Bounds.{text_bytes_limit}
use Rattle.node_kinds.specs.declared.Kind.TheVariants.{Float, Text}
use Rattle.node_kinds.specs.Float.{float32, finite, range_of, range_ok, in_range}
use Rattle.node_kinds.specs.Stored.{held}
use Rattle.node_kinds.proofs.FloatLaws.{float_of-finite, first-in-range}
use Rattle.node_schema.specs.Layout.{half}
use Rattle.node_schema.specs.Rows.{AttributeRow, factory_length}
use Rattle.node_schema.proofs.BoolLaws.{both, left, right, by-test}
use Rattle.node_plan.specs.Attributes.{float_code, kind_of, typed}
use Rattle.node_plan.specs.Check.{float_right, number_right, factory_right}
use Rattle.node_plan.specs.Rules.{FirstAllowed, FloatRules, FactoryRules}
use Rattle.node_plan.proofs.KindLaws.{other-code, kind-unsigned, kind-signed, kind-float, kind-text, kind-boolean}

-- a code is one of the four above boolean's, or none of them
pub by_code_lem : {P : Type 0} (k : ℕ) → (k ≡ 1 → P) → (k ≡ 2 → P) → (k ≡ 3 → P) → (k ≡ 4 → P) → ((k ≡ 1 → ⊥) → (k ≡ 2 → ⊥) → (k ≡ 3 → ⊥) → (k ≡ 4 → ⊥) → P) → P
by_code_lem k u s f t b =
    by-test (eqb k 1) (λ e. u (eqb-true k 1 e))
    (λ h₁. by-test (eqb k 2) (λ e. s (eqb-true k 2 e))
    (λ h₂. by-test (eqb k 3) (λ e. f (eqb-true k 3 e))
    (λ h₃. by-test (eqb k 4) (λ e. t (eqb-true k 4 e))
    (λ h₄. b (eqb-false k 1 h₁) (eqb-false k 2 h₂) (eqb-false k 3 h₃) (eqb-false k 4 h₄)))))

module _ (a : AttributeRow) where
  -- a row is a text's exactly if its kind is
  pub text-code : kind_of a ≡ Text → a.kind ≡ 4
  text-code h =
      by_code_lem a.kind (λ e. clash (cc (kind-unsigned a e))) (λ e. clash (cc (kind-signed a e))) (λ e. clash (cc (kind-float a e))) (λ e. e)
      (λ h₁ h₂ h₃ h₄. clash (cc (kind-boolean a h₁ h₂ h₃ h₄)))
    where
      clash : ◌≡◌ {A = ℕ} 0 1 → a.kind ≡ 4
      clash z = absurd (omega arith)

  to-floats : float_right a.low a.high a.first ≡ true → FloatRules a
  unfolding float_right
  to-floats h =
      let h₁ = right (ltb a.low half) _ h in
      let h₂ = right (ltb a.high half) _ h₁ in
      record {
        low = ltb-true a.low half (left _ _ h);
        high = ltb-true a.high half (left _ _ h₁);
        first = ltb-true a.first half (left _ _ h₂);
        range = right (ltb a.first half) _ h₂;
      }

  from-floats : FloatRules a → float_right a.low a.high a.first ≡ true
  unfolding float_right
  from-floats r =
      both _ _ (lt-ltb a.low half r.low) (both _ _ (lt-ltb a.high half r.high) (both _ _ (lt-ltb a.first half r.first) r.range))

  -- words of 32 bits are decoded whole
  whole : FloatRules a → range_of (a.low % half) (a.high % half) (a.first % half) ≡ range_of a.low a.high a.first
  whole r =
      let l : a.low % half ≡ a.low = omega (arith, r.low) in
      let h : a.high % half ≡ a.high = omega (arith, r.high) in
      let f : a.first % half ≡ a.first = omega (arith, r.first) in
      rw (l, h, f)

  float-first : FloatRules a → in_range (range_of (a.low % half) (a.high % half) (a.first % half)) a.first ≡ true
  float-first r = rw (whole r) (first-in-range a.low a.high a.first r.range)

  pub to-float-rules : number_right a ≡ true → a.kind ≡ float_code → FloatRules a
  unfolding number_right
  to-float-rules h e = to-floats (rw e at h)

  -- a number that the check passed is one that the limits allow
  pub to-allowed : (w : List ℕ) → number_right a ≡ true → (a.kind ≡ 4 → factory_length w a.first ≤ text_bytes_limit) → FirstAllowed (typed w a)
  unfolding number_right typed held
  to-allowed w h t =
      by_code_lem a.kind (λ e. rw (kind-unsigned a e, e) (rw e at h)) (λ e. rw (kind-signed a e, e) (rw e at h))
      (λ e. let r = to-floats (rw e at h) in rw (kind-float a e, e) (both _ _ (lt-ltb a.first half r.first) (float-first r)))
      (λ e. rw (kind-text a e, e) (le-leb (factory_length w a.first) text_bytes_limit (t e)))
      (λ h₁ h₂ h₃ h₄. let n : eqb a.kind 4 ≡ false = ne_eqb _ _ h₄ in
      rw (kind-boolean a h₁ h₂ h₃ h₄, n) (sym (other-code _ _ _ _ _ a.kind h₁ h₂ h₃ h₄) ∙ h))

  pub from-allowed : (w : List ℕ) → FirstAllowed (typed w a) → (a.kind ≡ float_code → FloatRules a) → number_right a ≡ true
  unfolding number_right typed held
  from-allowed w h f =
      by_code_lem a.kind (λ e. rw e (rw (kind-unsigned a e, e) at h)) (λ e. rw e (rw (kind-signed a e, e) at h)) (λ e. rw e (from-floats (f e)))
      (λ e. rw e)
      (λ h₁ h₂ h₃ h₄. let n : eqb a.kind 4 ≡ false = ne_eqb _ _ h₄ in
      other-code _ _ _ _ _ a.kind h₁ h₂ h₃ h₄ ∙ rw (kind-boolean a h₁ h₂ h₃ h₄, n) at h)

  -- the floats of an accepted kind are exactly those of the words
  pub float-exact : a.kind ≡ float_code → FloatRules a → kind_of a ≡ Float (record { low = float32 a.low; high = float32 a.high; first = float32 a.first })
  unfolding range_of range_ok
  float-exact e r =
      let r₁ = right (finite (float32 a.low)) _ r.range in
      let r₂ = right (finite (float32 a.high)) _ r₁ in
      kind-float a e
      ∙ ap Float (whole r)
      ∙ rw (float_of-finite a.low (left _ _ r.range), float_of-finite a.high (left _ _ r₁), float_of-finite a.first (left _ _ r₂))

-- ---- factory texts

module _ (page : List ℕ) (start len : ℕ) where
  pub to-factory : factory_right page start len ≡ true → FactoryRules page start len
  unfolding factory_right
  to-factory h =
      let h₁ = right (leb len text_bytes_limit) _ h in
      record {
        inside = leb-true (start + len) (length page) (left _ _ h₁);
        size = leb-true len text_bytes_limit (left _ _ h);
        valid = right (leb (start + len) (length page)) _ h₁;
      }

  pub from-factory : FactoryRules page start len → factory_right page start len ≡ true
  unfolding factory_right
  from-factory r = both _ _ (le-leb len text_bytes_limit r.size) (both _ _ (le-leb (start + len) (length page) r.inside) r.valid)
