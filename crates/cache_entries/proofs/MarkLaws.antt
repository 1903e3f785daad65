-- Marks for the places of texts: a mark is 0 exactly where none of the first n entries has its text.
use mathlib.Core.Path.{◌≡◌, refl, sym, ap, ◌∙◌}
use mathlib.Core.Bool.{not}
use mathlib.Core.List.{List}
use Prim.Native.Nat.{ℕ, ◌+◌, ◌<◌}
use native.Mathlib.Numerals.{add-one}
use native.Mathlib.Omega.{arith}
use borrow.Author.Tests.{eq-eqb, ne_eqb, eqb-true, eqb-false}
use lib.Dec.{eqb}
use lib.ListN.{get_or, set, replicate, length-replicate, get_or-replicate, length-set}
use lib.Seq.{get_or-set_same, get_or-set_other}
use Rattle.node_schema.specs.Search.{first}
use Rattle.node_schema.proofs.BoolLaws.{by-test}
use Rattle.cache_entries.specs.Limits.{text_places, text_kind}
use Rattle.cache_entries.proofs.SetLaws.{first-agree}
use Rattle.cache_entries.specs.Texts.{is_text, place_used, free_place, Marked}

module _ (kinds words : List ℕ) where
  pub marked-none : Marked kinds words 0 (replicate text_places 0)
  unfolding place_used
  marked-none = record { size = length-replicate {A = ℕ} text_places 0; each = λ p l. eq-eqb _ _ (get_or-replicate text_places p 0 0 l) }

  module _ (i : ℕ) (marks : List ℕ) (m : Marked kinds words i marks) where
    -- an entry that is no text, or whose word is no place
    pub marked_other : ((p : ℕ) → p < text_places → get_or kinds i 0 ≡ text_kind → get_or words i 0 ≡ p → ⊥) → Marked kinds words (i + 1) marks
    unfolding place_used
    marked_other none = record { size = m.size; each = each }
      where
        each : (p : ℕ) → p < text_places → eqb (get_or marks p 0) 0 ≡ not (place_used kinds words (i + 1) p)
        each p l = rw (add-one i) (by-test (is_text kinds i)
            (λ t. rw (t, ne_eqb (get_or words i 0) p (none p l (eqb-true _ _ t))) (m.each p l))
            (λ f. rw f (m.each p l)))

    -- a text
    pub marked-text : get_or kinds i 0 ≡ text_kind → (q : ℕ) → get_or words i 0 ≡ q → q < text_places → Marked kinds words (i + 1) (set marks q 1)
    unfolding place_used
    marked-text e q w low = record { size = length-set marks q 1 ∙ m.size; each = each }
      where
        each : (p : ℕ) → p < text_places → eqb (get_or (set marks q 1) p 0) 0 ≡ not (place_used kinds words (i + 1) p)
        each p l = rw (add-one i, eq-eqb _ _ e) (by-test (eqb q p)
            (λ t. let z = eqb-true q p t in rw (w, t, ap (λ (x : ℕ). get_or (set marks q 1) x 0) (sym z) ∙ get_or-set_same marks q 1 0 (omega (arith, low, m.size))) refl)
            (λ f. rw (w, f, get_or-set_other marks q p 1 0 (λ z. eqb-false q p f (sym z))) (m.each p l)))

-- the first mark that is 0 is that of the first free place
pub marked-free : (kinds words : List ℕ) (n : ℕ) (marks : List ℕ) → Marked kinds words n marks → first (λ p. eqb (get_or marks p 0) 0) text_places 0 ≡ free_place kinds words n
unfolding free_place
marked-free kinds words n marks m = first-agree (λ p. eqb (get_or marks p 0) 0) (λ p. not (place_used kinds words n p)) text_places 0 (λ p a b. m.each p (omega (arith, b)))
