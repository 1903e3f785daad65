-- The marks of places when one entry is set: they are those of the entries with it.
use mathlib.Core.Path.{◌≡◌, refl, sym, ap, subst, ◌∙◌}
use mathlib.Core.Bool.{Bool, true, false, not, ◌&&◌, false≢true}
use mathlib.Core.List.{List}
use Prim.Native.Nat.{ℕ, ◌<◌, ◌≤◌}
use native.Mathlib.Omega.{arith}
use borrow.Author.Tests.{eqb-true, eqb-false, lt-ltb}
use lib.Dec.{eqb, ltb}
use lib.ListN.{length, get_or, set, length-set}
use lib.Seq.{get_or-set_same, get_or-set_other, set-get_or}
use Rattle.node_schema.proofs.BoolLaws.{by-test, both}
use Rattle.cache_entries.specs.Limits.{max_entries, text_places, text_kind}
use Rattle.cache_entries.specs.Texts.{is_text, place_used, Marked, Own}
use Rattle.cache_entries.specs.Set.{count_with}
use Rattle.cache_entries.proofs.SetLaws.{counted-here, counted-more, counted-other}
use Rattle.cache_entries.proofs.TextLaws.{TextAt, used-there, there-used, unused}

module _ (kinds words : List ℕ) (n i : ℕ) (next : i ≤ n) (low : i < max_entries) (size-k : length kinds ≡ max_entries) (size-w : length words ≡ max_entries) (kind word : ℕ) where
  abbrev kinds' : List ℕ
  kinds' = set kinds i kind

  abbrev words' : List ℕ
  words' = set words i word

  abbrev n' : ℕ
  n' = count_with n i

  -- a text of another entry is there before and after
  after : (p j : ℕ) → (j ≡ i → ⊥) → TextAt kinds words n p j → TextAt kinds' words' n' p j
  after p j apart t = record {
    below = omega (arith, t.below, counted-more n i next);
    text = ap (λ (m : ℕ). eqb m text_kind) (get_or-set_other kinds i j kind 0 apart) ∙ t.text;
    place = get_or-set_other words i j word 0 apart ∙ t.place;
  }

  before : (p j : ℕ) → (j ≡ i → ⊥) → TextAt kinds' words' n' p j → TextAt kinds words n p j
  before p j apart t = record {
    below = counted-other n i j next apart t.below;
    text = ap (λ (m : ℕ). eqb m text_kind) (sym (get_or-set_other kinds i j kind 0 apart)) ∙ t.text;
    place = sym (get_or-set_other words i j word 0 apart) ∙ t.place;
  }

  own-kind : get_or kinds' i 0 ≡ kind
  own-kind = get_or-set_same kinds i kind 0 (omega (arith, low, size-k))

  own-word : get_or words' i 0 ≡ word
  own-word = get_or-set_same words i word 0 (omega (arith, low, size-w))

  -- a place that entry i has neither before nor after is used as it was
  used-others : (p : ℕ) → (TextAt kinds words n p i → ⊥) → (eqb kind text_kind ≡ true → word ≡ p → ⊥) → place_used kinds' words' n' p ≡ place_used kinds words n p
  used-others p was is = go (place_used kinds words n p) refl
    where
      go : (b : Bool) → place_used kinds words n p ≡ b → place_used kinds' words' n' p ≡ b
      go true e = let (j, t) = used-there kinds words n p e in
          there-used kinds' words' n' p j (after p j (λ z. was (subst (TextAt kinds words n p) z t)) t)
      go false e = unused kinds' words' n' p (λ j t. by-test (eqb j i)
          (λ z. let q = eqb-true j i z in let u = subst (TextAt kinds' words' n' p) q t in is (ap (λ (m : ℕ). eqb m text_kind) (sym own-kind) ∙ u.text) (sym own-word ∙ u.place))
          (λ z. false≢true (sym e ∙ there-used kinds words n p j (before p j (eqb-false j i z) t))))

  module _ (marks : List ℕ) (m : Marked kinds words n marks) where
    -- it was no text, and is none
    pub stays-none : (ltb i n && is_text kinds i) ≡ false → eqb kind text_kind ≡ false → Marked kinds' words' n' marks
    stays-none was is = record {
      size = m.size;
      each = λ p l. m.each p l ∙ sym (ap not (used-others p (λ t. false≢true (sym was ∙ both _ _ (lt-ltb i n t.below) t.text)) (λ t e. false≢true (sym is ∙ t))));
    }

    -- it becomes one at a place that is free
    pub becomes-text : (ltb i n && is_text kinds i) ≡ false → eqb kind text_kind ≡ true → word < text_places → Marked kinds' words' n' (set marks word 1)
    becomes-text was is fits = record { size = length-set marks word 1 ∙ m.size; each = each }
      where
        each : (p : ℕ) → p < text_places → eqb (get_or (set marks word 1) p 0) 0 ≡ not (place_used kinds' words' n' p)
        each p l = by-test (eqb p word)
            (λ z. let q = eqb-true p word z in
            let used : place_used kinds' words' n' p ≡ true = there-used kinds' words' n' p i (record { below = counted-here n i; text = ap (λ (k : ℕ). eqb k text_kind) own-kind ∙ is; place = own-word ∙ sym q }) in
            let mark : get_or (set marks word 1) p 0 ≡ 1 = ap (λ (k : ℕ). get_or (set marks word 1) k 0) q ∙ get_or-set_same marks word 1 0 (omega (arith, fits, m.size)) in
            rw (used, mark) refl)
            (λ z. let apart = eqb-false p word z in
            rw (get_or-set_other marks word p 1 0 apart) (m.each p l ∙ sym (ap not (used-others p (λ t. false≢true (sym was ∙ both _ _ (lt-ltb i n t.below) t.text)) (λ t e. apart (sym e))))))

    -- it was one, and is none any more
    pub becomes-none : i < n → is_text kinds i ≡ true → Own kinds words n i (get_or words i 0) → eqb kind text_kind ≡ false → Marked kinds' words' n' (set marks (get_or words i 0) 0)
    becomes-none l t own is = record { size = length-set marks (get_or words i 0) 0 ∙ m.size; each = each }
      where
        q : ℕ
        q = get_or words i 0

        each : (p : ℕ) → p < text_places → eqb (get_or (set marks q 0) p 0) 0 ≡ not (place_used kinds' words' n' p)
        each p b = by-test (eqb p q)
            (λ z. let e = eqb-true p q z in
            let free : place_used kinds' words' n' p ≡ false = unused kinds' words' n' p (λ j u. by-test (eqb j i)
            (λ y. let s = subst (TextAt kinds' words' n' p) (eqb-true j i y) u in false≢true (sym is ∙ (ap (λ (k : ℕ). eqb k text_kind) (sym own-kind) ∙ s.text)))
            (λ y. let v = before p j (eqb-false j i y) u in own.apart j v.below (eqb-false j i y) v.text (v.place ∙ e))) in
            let mark : get_or (set marks q 0) p 0 ≡ 0 = ap (λ (k : ℕ). get_or (set marks q 0) k 0) e ∙ get_or-set_same marks q 0 0 (omega (arith, own.below, m.size)) in
            rw (free, mark) refl)
            (λ z. let apart = eqb-false p q z in
            rw (get_or-set_other marks q p 0 0 apart) (m.each p b ∙ sym (ap not (used-others p (λ u. apart (sym u.place)) (λ u e. false≢true (sym is ∙ u))))))

    -- it was one, and is one at the same place
    pub stays-text : i < n → is_text kinds i ≡ true → eqb kind text_kind ≡ true → word ≡ get_or words i 0 → Marked kinds' words' n' marks
    stays-text l t is e =
        let same-k : kinds' ≡ kinds = ap (set kinds i) (eqb-true kind text_kind is ∙ sym (eqb-true (get_or kinds i 0) text_kind t)) ∙ set-get_or kinds i 0 in
        let same_w : words' ≡ words = ap (set words i) e ∙ set-get_or words i 0 in
        let same-n : n' ≡ n = rw (lt-ltb i n l) refl in
        rw (same-k, same_w, same-n) m
