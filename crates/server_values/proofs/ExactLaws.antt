-- A change is exactly a difference of values: what is held differs from a value exactly if it means another one.
use mathlib.Core.Path.{◌≡◌, refl, sym, subst, ◌∙◌}
use mathlib.Core.List.{List}
use mathlib.Core.Bool.{Bool, true, false, not, true≢false}
use mathlib.Core.Logic.{◌↔◌}
use Prim.Native.Nat.{ℕ, zero, suc, ◌%◌, ◌^◌, ◌<◌}
use native.Mathlib.Omega.{arith}
use borrow.Author.Tests.{eq-eqb, eqb-true, ltb-true, leb-true, not-false}
use lib.Dec.{eqb}
use mir.Syntax.{w64}
use mir.ValLaws.{of_z-to_z}
use Rattle.tlv_reader.specs.Value.{Datum}
use Rattle.node_kinds.specs.declared.Kind.{Kind}
use Rattle.node_kinds.specs.declared.Kind.TheVariants as Kinds
use Rattle.node_kinds.specs.Limits.{is_null}
use Rattle.node_kinds.specs.Stored.{held}
use Rattle.node_kinds.proofs.StoredLaws.{equal-same, equal-eq}
use Rattle.node_schema.specs.Layout.{half}
use Rattle.node_schema.proofs.BoolLaws.{left, by-test}
use Rattle.server_values.specs.Values.{held_datum}
use Rattle.server_values.specs.Change.{text_of, is_text, word_for, differs_from}
use Rattle.server_values.proofs.ValueLaws.{textual, is-textual}
use Rattle.server_values.specs.Storing.{Accepted}
use Rattle.server_values.proofs.AcceptedLaws.{own-kind}

-- the value of another kind than text does not depend on what is shown, a text's on nothing else
number-held : (k : Kind) (word : ℕ) (shown other : List ℕ) → textual k ≡ false → held_datum k word false shown ≡ held_datum k word false other
unfolding held_datum
number-held Kinds.Boolean word shown other h = refl
number-held (Kinds.Unsigned l u) word shown other h = refl
number-held (Kinds.Signed l u) word shown other h = refl
number-held (Kinds.Float r) word shown other h = refl
number-held Kinds.Text word shown other h = cc

text-held : (k : Kind) (word other : ℕ) (shown : List ℕ) → textual k ≡ true → held_datum k word false shown ≡ held_datum k other false shown
unfolding held_datum
text-held k word other shown h = rw (is-textual k h)

bit_word : (n : ℕ) → n < 2 → word_for (Datum.boolean (not (eqb n 0))) ≡ n
unfolding word_for
bit_word zero l = refl
bit_word (suc zero) l = refl
bit_word (suc (suc n)) l = absurd (omega arith)

own_same : (nullable : Bool) (word : ℕ) (shown : List ℕ) → word < 2 ^ 64 → (k : Kind) (b : Bool) → held k nullable word b ≡ true → differs_from word b shown (held_datum k word b shown) ≡ false
unfolding held held_datum differs_from word_for
own_same nullable word shown f k true h = refl
own_same nullable word shown f Kinds.Boolean false h = rw (bit_word word (omega (arith, leb-true word 1 h)), eq-eqb word word refl)
own_same nullable word shown f (Kinds.Unsigned l u) false h = rw (eq-eqb word word refl)
own_same nullable word shown f (Kinds.Signed l u) false h = rw (of_z-to_z w64 word (record { fits = f }), eq-eqb word word refl)
own_same nullable word shown f (Kinds.Float r) false h =
    let e : word % half ≡ word = omega (arith, ltb-true word half (left _ _ h)) in
    rw (e, eq-eqb word word refl)
own_same nullable word shown f Kinds.Text false h = rw (equal-same shown)

module _ (k : Kind) (nullable : Bool) where
  -- an accepted value is what its stored form means, with its own text shown
  pub means : (d : Datum) → Accepted k nullable d → (shown : List ℕ) → (is_text d ≡ true → shown ≡ text_of d) → held_datum k (word_for d) (is_null d) shown ≡ d
  unfolding held_datum
  means d a shown t =
      by-test (is_text d) (λ u. rw (t u) a.back)
      (λ u. by-test (is_null d) (λ n. rw n (rw n at a.back)) (λ n. rw n (number-held k (word_for d) shown (text_of d) (sym (own-kind a n) ∙ u) ∙ rw n at a.back)))

  module _ (word : ℕ) (shown : List ℕ) where
    -- where nothing differs, the value is held
    pub same-held : (is_null' : Bool) (d : Datum) → Accepted k nullable d → differs_from word is_null' shown d ≡ false → held_datum k word is_null' shown ≡ d
    unfolding differs_from held_datum
    same-held true d a h = let n : is_null d ≡ true = not-false _ h in rw n at a.back
    same-held false d a h =
        by-test (is_null d) (λ n. absurd (true≢false (rw n at h)))
        (λ n. by-test (is_text d)
        (λ t. let e : shown ≡ text_of d = equal-eq shown (text_of d) (not-false _ (rw (n, t) at h)) in
        text-held k word (word_for d) shown (sym (own-kind a n) ∙ t) ∙ rw e (rw n at a.back))
        (λ t. let e : word ≡ word_for d = eqb-true _ _ (not-false _ (rw (n, t) at h)) in
        number-held k word shown (text_of d) (sym (own-kind a n) ∙ t) ∙ rw e (rw n at a.back)))

    -- and the value that is held does not differ
    pub held_same : (is_null' : Bool) → word < 2 ^ 64 → held k nullable word is_null' ≡ true → differs_from word is_null' shown (held_datum k word is_null' shown) ≡ false
    held_same is_null' f h = own_same nullable word shown f k is_null' h

    -- so a value that the limits allow does not differ exactly if it is held
    pub exactly : (is_null' : Bool) (d : Datum) → word < 2 ^ 64 → held k nullable word is_null' ≡ true → Accepted k nullable d → (differs_from word is_null' shown d ≡ false) ↔ (held_datum k word is_null' shown ≡ d)
    exactly is_null' d f h a = (same-held is_null' d a, λ e. subst (λ (x : Datum). differs_from word is_null' shown x ≡ false) e (held_same is_null' f h))
