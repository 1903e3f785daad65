-- The places of texts: each text has its own, and the place that is given to a text is no other's.
use Rattle.std.specs.Prelude.{Some, None, Option}
use mathlib.Core.Path.{◌≡◌, refl, sym, ap, ◌∙◌}
use mathlib.Core.Bool.{Bool, true, false, not, ◌&&◌, false≢true}
use mathlib.Core.List.{List}
use Prim.Native.Nat.{ℕ, zero, suc, ◌≤◌, ◌<◌}
use native.Mathlib.Omega.{arith}
use borrow.Author.Tests.{eqb-true, eq-eqb, ltb-true, ltb-false, lt-ltb}
use lib.Dec.{eqb, ltb}
use lib.ListN.{get_or}
use Rattle.tlv_reader.specs.Octet.{pick}
use Rattle.node_schema.specs.Search.{first}
use Rattle.node_schema.proofs.BoolLaws.{both, left, right, by-test}
use Rattle.node_schema.proofs.SearchLaws.{found, none}
use Rattle.cache_order.proofs.Pigeonhole.{pigeons, all_there}
use Rattle.cache_entries.specs.declared.Cached.{Cached}
use Rattle.cache_entries.specs.Limits.{max_entries, text_places}
use Rattle.cache_entries.specs.Texts.{is_text, place_used, free_place, or_first, text_place, place_given, Own}
use Rattle.cache_entries.specs.Valid.{texts_right, RightHeld}
use Rattle.cache_entries.proofs.ValidLaws.{text-right}

-- entry j of the first n is the text at place p
pub record TextAt (kinds words : List ℕ) (n p j : ℕ) : Type 0 where
  pub below : j < n
  pub text : is_text kinds j ≡ true
  pub place : get_or words j 0 ≡ p

module _ (kinds words : List ℕ) where
  -- the last entry that is
  abbrev holder : ℕ → ℕ → ℕ
  holder zero p = 0
  holder (suc n) p = pick (is_text kinds n && eqb (get_or words n 0) p) n (holder n p)

  used-holder : (n p : ℕ) → place_used kinds words n p ≡ true → TextAt kinds words n p (holder n p)
  unfolding place_used
  used-holder zero p h = absurd (false≢true h)
  used-holder (suc n) p h =
      by-test (is_text kinds n && eqb (get_or words n 0) p)
      (λ t. rw t (record { below = omega arith; text = left _ _ t; place = eqb-true _ _ (right (is_text kinds n) _ t) }))
      (λ f. let r = used-holder n p (rw f at h) in rw f (record { below = omega (arith, r.below); text = r.text; place = r.place }))

  -- A PLACE IS USED EXACTLY if an entry is the text there
  pub used-there : (n p : ℕ) → place_used kinds words n p ≡ true → (j : ℕ) × TextAt kinds words n p j
  used-there n p h = (holder n p, used-holder n p h)

  pub there-used : (n p j : ℕ) → TextAt kinds words n p j → place_used kinds words n p ≡ true
  unfolding place_used
  there-used zero p j r = absurd (omega (arith, r.below))
  there-used (suc n) p j r =
      by-test (is_text kinds n && eqb (get_or words n 0) p) (λ t. rw t refl)
      (λ f. let apart : j ≡ n → ⊥ = λ e. false≢true (sym f ∙ both _ _ (ap (is_text kinds) (sym e) ∙ r.text) (eq-eqb _ _ (ap (λ (k : ℕ). get_or words k 0) (sym e) ∙ r.place))) in
      rw f (there-used n p j (record { below = omega (arith, r.below, apart); text = r.text; place = r.place })))

  pub unused : (n p : ℕ) → ((j : ℕ) → TextAt kinds words n p j → ⊥) → place_used kinds words n p ≡ false
  unused n p lacks = by-test (place_used kinds words n p) (λ t. absurd (lacks (holder n p) (used-holder n p t))) (λ f. f)

  pub none-there : (n p : ℕ) → place_used kinds words n p ≡ false → (j : ℕ) → TextAt kinds words n p j → ⊥
  none-there n p f j r = false≢true (sym f ∙ there-used n p j r)

-- TWO TEXTS have two places
module _ (page : List ℕ) (c : Cached) (h : texts_right page c ≡ true) where
  earlier : (i j : ℕ) → i < j → j < c.count → is_text c.kinds i ≡ true → is_text c.kinds j ≡ true → get_or c.words i 0 ≡ get_or c.words j 0 → ⊥
  earlier i j l u ti tj e =
      none-there c.kinds c.words j (get_or c.words j 0) (text-right page c h j u tj).own i (record { below = l; text = ti; place = e })

  pub texts-apart : (i j : ℕ) → i < c.count → j < c.count → is_text c.kinds i ≡ true → is_text c.kinds j ≡ true → get_or c.words i 0 ≡ get_or c.words j 0 → i ≡ j
  texts-apart i j li lj ti tj e =
      by-test (ltb i j) (λ t. absurd (earlier i j (ltb-true i j t) lj ti tj e))
      (λ f. by-test (ltb j i) (λ t. absurd (earlier j i (ltb-true j i t) li tj ti (sym e))) (λ g. omega (arith, ltb-false i j f, ltb-false j i g)))

-- THE PLACE GIVEN to the text of entry i is one
module _ (page : List ℕ) (c : Cached) (r : RightHeld page c) (i : ℕ) (low : i < max_entries) where
  -- it has one
  kept : i < c.count → is_text c.kinds i ≡ true → Own c.kinds c.words c.count i (get_or c.words i 0)
  kept l t =
      record {
        below = (text-right page c r.texts i l t).place;
        apart = λ j u ne tj e. ne (texts-apart page c r.texts j i u l tj t e);
      }

  abbrev used : ℕ → Bool
  used p = place_used c.kinds c.words c.count p

  -- one is free: were all used, each by a text, then every entry were a text
  all-used : ((p : ℕ) → p < text_places → used p ≡ true) → (i < c.count → is_text c.kinds i ≡ true → ⊥) → ⊥
  all-used full plain =
      let at : ℕ → ℕ = holder c.kinds c.words c.count in
      let has : (p : ℕ) → p < text_places → TextAt c.kinds c.words c.count p (at p) = λ p l. used-holder c.kinds c.words c.count p (full p l) in
      let differ : (p q : ℕ) → p < text_places → q < text_places → at p ≡ at q → p ≡ q = λ p q lp lq e. sym (has p lp).place ∙ ap (λ (j : ℕ). get_or c.words j 0) e ∙ (has q lq).place in
      let many : text_places ≤ c.count = pigeons c.count text_places at (λ p l. (has p l).below) differ in
      let (p, l, e) = all_there text_places at (λ p l. omega (arith, (has p l).below, r.few-entries)) differ i low in
      plain (omega arith) (ap (is_text c.kinds) (sym e) ∙ (has p l).text)

  free : (i < c.count → is_text c.kinds i ≡ true → ⊥) → Own c.kinds c.words c.count i (or_first (free_place c.kinds c.words c.count))
  unfolding free_place
  free plain = go (first (λ p. not (used p)) text_places 0) refl
    where
      go : (f : (Option ℕ)) → first (λ p. not (used p)) text_places 0 ≡ f → Own c.kinds c.words c.count i (or_first f)
      go (Some p) e =
          let h = found (λ p. not (used p)) text_places 0 p e in
          record { below = omega (arith, h.below); apart = λ j u ne tj q. none-there c.kinds c.words c.count p (by-test (used p) (λ t. absurd (false≢true (rw t at h.holds))) (λ f. f)) j (record { below = u; text = tj; place = q }) }
      go None e =
          absurd (all-used (λ p l. by-test (used p) (λ t. t) (λ f. absurd (false≢true (sym (rw f at (none (λ p. not (used p)) text_places 0 p e (omega arith) (omega arith))))))) plain)

  pub place-own : Own c.kinds c.words c.count i (text_place c i)
  unfolding place_given
  place-own =
      by-test (ltb i c.count && is_text c.kinds i)
      (λ t. rw t (kept (ltb-true i c.count (left _ _ t)) (right (ltb i c.count) _ t)))
      (λ f. rw f (free (λ l t. false≢true (sym f ∙ both _ _ (lt-ltb i c.count l) t))))
