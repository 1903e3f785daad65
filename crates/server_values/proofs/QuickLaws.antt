-- What the quick test passes is right: the texts shown from each page are well-formed, and lie in it.
use mathlib.Core.Path.{◌≡◌, refl, sym, ap, ◌∙◌}
use mathlib.Core.Bool.{Bool, true, false, not, ◌&&◌, ◌||◌, beq, false≢true}
use mathlib.Core.List.{List}
use Prim.Native.Nat.{ℕ, ◌+◌, ◌*◌, ◌-◌, ◌≤◌, ◌<◌, min}
use native.Mathlib.Omega.{arith}
use borrow.Author.Tests.{le-leb, lt-leb, leb-true, eqb-true, eq-eqb, ne_eqb}
use lib.Dec.{eqb, leb}
use lib.ListN.{length, get_or, take, drop, get_or-replicate}
use Rattle.base_bounds.specs.Bounds.{text_bytes_limit}
use Rattle.base_utf8.specs.WellFormed.{well_formed}
use Rattle.base_utf8.specs.Bytewise.{all_below}
use Rattle.base_utf8.proofs.Below.{ascii-formed, below-part}
use Rattle.node_kinds.specs.Stored.{held}
use Rattle.node_schema.specs.Layout.{text_limit, text_size}
use Rattle.node_schema.specs.Rows.{attribute_row, count_of_attributes, is_text, factory_start, factory_length}
use Rattle.node_schema.specs.Check.{every, rank, rank_right, ranks_right, count_of_texts}
use Rattle.node_schema.proofs.BoolLaws.{both, left, right, past, fails, by-test, same}
use Rattle.node_schema.proofs.CheckLaws.{every-next, every-at, every-all, every-fails, no_text}
use Rattle.node_schema.proofs.TextLaws.{count_past, of-rank}
use Rattle.node_plan.specs.Check.{number_right, numbers_right, factory_right, texts_right}
use Rattle.node_plan.specs.Pages.{place, unchanged, shown_text}
use Rattle.node_plan.proofs.PageLaws.{part-whole}
use Rattle.server_values.specs.Values.{rank_text, rank_length, mark_at}
use Rattle.server_values.specs.Valid.{mark_max, text_right, held_right, values_right}
use Rattle.server_values.specs.Quick.{some, some_null, some_text, text_room, plain_page, start_in, length_in, formed_at, near, near_at, unmarked, null_at, number_quick, quick_at, all_quick, quick_right}
use Rattle.server_values.proofs.ValueLaws.{mark-there}
use Rattle.server_values.proofs.ValidLaws.{within_limits, and-true, whole-text, text-null, text-there, number-row, text-first, text-within, text-right, held_of, both_at, right-done}

-- ---- one of them

not-both : (a b : Bool) → (not a || b) ≡ not (a && not b)
not-both true true = refl
not-both true false = refl
not-both false b = refl

-- a turn of the loop
pub some_turn : (p : ℕ → Bool) (i : ℕ) → (some p i || p i) ≡ some p (i + 1)
unfolding some
some_turn p i = not-both (every (λ k. not (p k)) i) (p i) ∙ ap not (sym (every-next (λ k. not (p k)) i))

some_at : (p : ℕ → Bool) (n i : ℕ) → i < n → p i ≡ true → some p n ≡ true
unfolding some
some_at p n i l e = ap not (sym (every-fails (λ k. not (p k)) n i l (ap not e)))

-- ---- the pages

-- as the code judges a page that texts may be shown from
module _ (page texts : List ℕ) (factory : Bool) (n : ℕ) where
  pub plain-none : some_text texts factory n ≡ false → true ≡ plain_page page texts factory n
  unfolding plain_page
  plain-none s = rw s

  module _ (s : some_text texts factory n ≡ true) where
    pub plain-long : text_limit * text_size < length page → false ≡ plain_page page texts factory n
    unfolding plain_page
    plain-long l = rw (s, lt-leb (length page) (text_limit * text_size) l)

    pub plain-all : length page ≤ text_limit * text_size → all_below 128 page ≡ plain_page page texts factory n
    unfolding plain_page
    plain-all l = rw (s, le-leb (length page) (text_limit * text_size) l)

    -- a plain page that shows a text is ASCII
    plain-below : plain_page page texts factory n ≡ true → all_below 128 page ≡ true
    unfolding plain_page
    plain-below h = right (leb (length page) (text_limit * text_size)) _ (rw s at h)

-- so its parts are well-formed
module _ (w page texts : List ℕ) (factory : Bool) (n : ℕ) where
  pub plain-formed : plain_page page texts factory n ≡ true → true ≡ every (formed_at w page texts factory) n
  plain-formed h =
      sym (every-all (formed_at w page texts factory) n
      (λ r l.
      by-test (beq (unchanged (get_or texts r 0)) factory)
      (λ t.
      let b = plain-below page texts factory n (some_at (λ k. beq (unchanged (get_or texts k 0)) factory) n r l t) h in
      rw t (ascii-formed _ (below-part 128 (length_in w (get_or texts r 0) factory r) (start_in w factory r) page b)))
      (λ t. rw t)))

-- as the code judges a text: shown from this page, and valid there or not; or not shown from it
module _ (w page texts : List ℕ) (factory : Bool) (r : ℕ) where
  pub formed-here : beq (unchanged (get_or texts r 0)) factory ≡ true → well_formed (take (length_in w (get_or texts r 0) factory r) (drop (start_in w factory r) page)) ≡ formed_at w page texts factory r
  formed-here t = rw t

  pub formed-other : beq (unchanged (get_or texts r 0)) factory ≡ false → formed_at w page texts factory r ≡ true
  formed-other t = rw t

-- a factory text is asked for, whatever its mark
factory-formed : (w defaults : List ℕ) (r : ℕ) → r < text_limit → formed_at w defaults unmarked true r ≡ true → well_formed (take (factory_length w r) (drop (factory_start w r) defaults)) ≡ true
factory-formed w defaults r l d = let e : get_or unmarked r 0 ≡ 0 = get_or-replicate text_limit r 0 0 l in rw e at d

-- so the text of a rank is well-formed
rank-formed : (w defaults edits texts : List ℕ) (r : ℕ) → well_formed (take (factory_length w r) (drop (factory_start w r) defaults)) ≡ true → formed_at w edits texts false r ≡ true → well_formed (rank_text w defaults edits r (get_or texts r 0)) ≡ true
unfolding shown_text
rank-formed w defaults edits texts r d e =
    by-test (eqb (get_or texts r 0) 0) (λ t. rw t d) (λ t. rw t (rw t at e))

-- ---- the text of a rank, where it is well-formed and the page of edits has room for it

module _ (w defaults edits : List ℕ) (r mark : ℕ) (h : near (factory_start w r) (factory_length w r) mark (length defaults) ≡ true) where
  near-mark : mark ≤ mark_max
  near-mark = leb-true mark mark_max (left _ _ h)

  near-factory : (leb (factory_length w r) (min (length defaults) text_bytes_limit) && leb (factory_start w r) (length defaults - factory_length w r)) ≡ true
  near-factory = right (leb mark mark_max) _ h

  factory-short : factory_length w r ≤ min (length defaults) text_bytes_limit
  factory-short = leb-true (factory_length w r) (min (length defaults) text_bytes_limit) (left _ _ near-factory)

  factory-inside : factory_start w r ≤ length defaults - factory_length w r
  factory-inside = leb-true (factory_start w r) (length defaults - factory_length w r) (right (leb (factory_length w r) (min (length defaults) text_bytes_limit)) _ near-factory)

  near-length : rank_length w r mark ≤ text_bytes_limit
  near-length = by-test (eqb mark 0) (λ t. rw t (omega (arith, factory-short))) (λ t. rw t (omega (arith, near-mark)))

  -- its factory text is right where it is well-formed
  near-accepted : well_formed (take (factory_length w r) (drop (factory_start w r) defaults)) ≡ true → factory_right defaults (factory_start w r) (factory_length w r) ≡ true
  unfolding factory_right
  near-accepted f = both _ _ (le-leb (factory_length w r) text_bytes_limit (omega (arith, factory-short))) (both _ _ (le-leb (factory_start w r + factory_length w r) (length defaults) (omega (arith, factory-short, factory-inside))) f)

  module _ (s : text_size * (r + 1) ≤ length edits) where
    near-whole : eqb (length (rank_text w defaults edits r mark)) (rank_length w r mark) ≡ true
    unfolding shown_text
    near-whole =
        by-test (eqb mark 0)
        (λ t. rw t (sym (part-whole (factory_length w r) (factory_start w r) defaults) ∙ le-leb (factory_length w r) (length defaults - factory_start w r) (omega (arith, factory-short, factory-inside))))
        (λ t. rw t (sym (part-whole (mark - 1) (place r) edits) ∙ le-leb (mark - 1) (length edits - place r) (omega (arith, near-mark, s))))

    pub near-right : well_formed (rank_text w defaults edits r mark) ≡ true → (is_null : Bool) → text_right w defaults edits r is_null mark ≡ true
    near-right f true = sym (text-null w defaults edits r mark true near-mark refl)
    near-right f false =
        sym (text-there w defaults edits r mark false near-mark refl)
        ∙ sym (whole-text (rank_text w defaults edits r mark) (rank_length w r mark) near-length near-whole)
        ∙ f

-- ---- the rows

-- the tests of a text, as the code makes them
module _ (low n mark len : ℕ) where
  pub near-high : mark_max < mark → false ≡ near low n mark len
  near-high e = rw (lt-leb mark mark_max e)

  module _ (e : mark ≤ mark_max) where
    pub near-long : text_bytes_limit < n → false ≡ near low n mark len
    near-long l = rw (le-leb mark mark_max e, lt-leb n (min len text_bytes_limit) (omega arith))

    pub near-short : n ≤ text_bytes_limit → leb (low + n) len ≡ near low n mark len
    near-short l =
        rw (le-leb mark mark_max e)
        (same (leb (low + n) len) (leb n (min len text_bytes_limit) && leb low (len - n))
        (λ h. let u = leb-true (low + n) len h in both _ _ (le-leb n (min len text_bytes_limit) (omega (arith, u, l))) (le-leb low (len - n) (omega (arith, u))))
        (λ h.
        let u = leb-true n (min len text_bytes_limit) (left _ _ h) in
        let v = leb-true low (len - n) (right (leb n (min len text_bytes_limit)) _ h) in
        le-leb (low + n) len (omega (arith, u, v))))

-- those of the nulls: there is none, or each is looked at
pub no-nulls : (w words : List ℕ) (nulls : List Bool) (n : ℕ) → some_null nulls n ≡ false → true ≡ every (null_at w words nulls) n
no-nulls w words nulls n s =
    sym (every-all (null_at w words nulls) n
    (λ i l. by-test (get_or nulls i false) (λ t. absurd (false≢true (sym s ∙ some_at (λ k. get_or nulls k false) n i l t))) (λ t. rw t)))

module _ (w words : List ℕ) (nulls : List Bool) (i : ℕ) where
  pub null-there : get_or nulls i false ≡ true → (eqb (attribute_row w i).nullable 1 && eqb (get_or words i 0) 0) ≡ null_at w words nulls i
  null-there t = rw t

  pub null-none : get_or nulls i false ≡ false → null_at w words nulls i ≡ true
  null-none t = rw t

-- a number whose null, where it is one, has been looked at
module _ (w words : List ℕ) (nulls : List Bool) (i : ℕ) (z : null_at w words nulls i ≡ true) where
  pub number-null : get_or nulls i false ≡ true → number_right (attribute_row w i) ≡ number_quick w words nulls i
  unfolding held
  number-null t =
      let h : (eqb (attribute_row w i).nullable 1 && eqb (get_or words i 0) 0) ≡ true = rw t at z in
      rw (t, h) (and-true (number_right (attribute_row w i)))

  module _ (r : Bool) (e : r ≡ (number_right (attribute_row w i) && within_limits w i (get_or words i 0) false)) where
    pub number-holds : r ≡ true → true ≡ number_quick w words nulls i
    number-holds h =
        by-test (get_or nulls i false) (λ t. sym (left _ _ (sym e ∙ h)) ∙ number-null t) (λ t. sym h ∙ e ∙ rw t)

    pub number-fails : r ≡ false → get_or nulls i false ≡ false → false ≡ number_quick w words nulls i
    number-fails h t = sym h ∙ e ∙ rw t

-- and those of a row, with k the texts before it
module _ (w words : List ℕ) (nulls : List Bool) (texts : List ℕ) (len : ℕ) where
  module _ (i k : ℕ) (e : k ≡ rank w i) (t : is_text (attribute_row w i) ≡ true) where
    pub quick-rank : ((attribute_row w i).first ≡ k → ⊥) → quick_at w words nulls texts len i ≡ false
    quick-rank n = rw (t, ne_eqb (attribute_row w i).first (rank w i) (λ q. n (q ∙ sym e)))

    module _ (q : (attribute_row w i).first ≡ k) where
      pub quick-word : (get_or words i 0 ≡ 0 → ⊥) → quick_at w words nulls texts len i ≡ false
      quick-word n = rw (t, eq-eqb (attribute_row w i).first (rank w i) (q ∙ e), ne_eqb (get_or words i 0) 0 n)

      pub quick-text : get_or words i 0 ≡ 0 → near_at w texts len k ≡ quick_at w words nulls texts len i
      quick-text z =
          ap (near_at w texts len) (sym q) ∙ rw (t, eq-eqb (attribute_row w i).first (rank w i) (q ∙ e), eq-eqb (get_or words i 0) 0 z)

  pub quick-number : (i : ℕ) → is_text (attribute_row w i) ≡ false → number_quick w words nulls i ≡ quick_at w words nulls texts len i
  quick-number i t = rw t

  pub quick-wrong : (size i : ℕ) → i < count_of_attributes w → quick_at w words nulls texts len i ≡ false → false ≡ all_quick w words nulls texts len size
  unfolding all_quick
  quick-wrong size i l t = fails _ _ (sym (every-fails (quick_at w words nulls texts len) (count_of_attributes w) i l t))

  pub quick-done : (size : ℕ) → every (quick_at w words nulls texts len) (count_of_attributes w) ≡ true → count_of_texts w ≤ text_limit → eqb size (text_size * count_of_texts w) ≡ all_quick w words nulls texts len size
  unfolding all_quick
  quick-done size h m = past _ _ (le-leb (count_of_texts w) text_limit m) ∙ past _ _ h

module _ (w defaults edits words : List ℕ) (nulls : List Bool) (texts : List ℕ) (q : quick_right w defaults edits words nulls texts ≡ true) where
  null : (i : ℕ) → i < count_of_attributes w → null_at w words nulls i ≡ true
  unfolding quick_right
  null = every-at (null_at w words nulls) (count_of_attributes w) (left _ _ q)

  pages : (every (formed_at w defaults unmarked true) (text_room (length edits)) && (every (formed_at w edits texts false) (text_room (length edits)) && all_quick w words nulls texts (length defaults) (length edits))) ≡ true
  unfolding quick_right
  pages = right (every (null_at w words nulls) (count_of_attributes w)) _ q

  rest : (every (formed_at w edits texts false) (text_room (length edits)) && all_quick w words nulls texts (length defaults) (length edits)) ≡ true
  rest = right (every (formed_at w defaults unmarked true) (text_room (length edits))) _ pages

  passed : all_quick w words nulls texts (length defaults) (length edits) ≡ true
  passed = right (every (formed_at w edits texts false) (text_room (length edits))) _ rest

  counted : (leb (count_of_texts w) text_limit && eqb (length edits) (text_size * count_of_texts w)) ≡ true
  unfolding all_quick
  counted = right (every (quick_at w words nulls texts (length defaults)) (count_of_attributes w)) _ passed

  size : length edits ≡ text_size * count_of_texts w
  size = eqb-true _ _ (right (leb (count_of_texts w) text_limit) _ counted)

  row : (i : ℕ) → i < count_of_attributes w → quick_at w words nulls texts (length defaults) i ≡ true
  unfolding all_quick
  row = every-at (quick_at w words nulls texts (length defaults)) (count_of_attributes w) (left _ _ passed)

  module _ (i : ℕ) (l : i < count_of_attributes w) where
    row-rank : rank_right w i ≡ true
    row-rank = by-test (is_text (attribute_row w i)) (λ t. rw t (left _ _ (rw t at (row i l)))) (no_text w i)

    module _ (t : is_text (attribute_row w i) ≡ true) where
      first : (attribute_row w i).first < count_of_texts w
      first =
          let f = eqb-true (attribute_row w i).first (rank w i) (rw t at row-rank) in
          omega (arith, f, count_past (λ j. is_text (attribute_row w j)) (count_of_attributes w) i l t)

      text-rest : (eqb (get_or words i 0) 0 && near_at w texts (length defaults) (attribute_row w i).first) ≡ true
      text-rest = right (eqb (attribute_row w i).first (rank w i)) _ (rw t at (row i l))

      inside : (attribute_row w i).first < text_room (length edits)
      inside = omega (arith, size, first, leb-true (count_of_texts w) text_limit (left _ _ counted))

      formed : well_formed (take (factory_length w (attribute_row w i).first) (drop (factory_start w (attribute_row w i).first) defaults)) ≡ true
      formed = let r = (attribute_row w i).first in factory-formed w defaults r (omega (arith, inside)) (every-at (formed_at w defaults unmarked true) (text_room (length edits)) (left _ _ pages) r inside)

      near-here : near_at w texts (length defaults) (attribute_row w i).first ≡ true
      near-here = right (eqb (get_or words i 0) 0) _ text-rest

      text-row-right : both_at w defaults edits (held_of words nulls texts) i ≡ true
      text-row-right =
          let r = (attribute_row w i).first in
          let mark = mark_at w texts i in
          let m = mark-there texts r (omega (arith, first, leb-true (count_of_texts w) text_limit (left _ _ counted))) in
          let z = eqb-true (get_or words i 0) 0 (left _ _ text-rest) in
          both _ _ (text-first w defaults edits i (get_or words i 0) (get_or nulls i false) mark t)
          (sym (text-right w defaults edits i (get_or words i 0) (get_or nulls i false) mark t (text-within w defaults edits i (get_or words i 0) (get_or nulls i false) mark t (null i l) z) z)
          ∙ rw m (near-right w defaults edits r (get_or texts r 0) near-here (omega (arith, size, first))
          (rank-formed w defaults edits texts r formed (every-at (formed_at w edits texts false) (text_room (length edits)) (left _ _ rest) r inside))
          (get_or nulls i false)))

    row-right : both_at w defaults edits (held_of words nulls texts) i ≡ true
    row-right =
        by-test (is_text (attribute_row w i)) text-row-right
        (λ t. sym (number-row w defaults edits i (get_or words i 0) (get_or nulls i false) (mark_at w texts i) t) ∙ (rw t at (row i l)))

  -- the factory text of each rank, which is some attribute's
  factory-texts : texts_right w defaults ≡ true
  unfolding texts_right
  factory-texts =
      every-all (λ r. factory_right defaults (factory_start w r) (factory_length w r)) (count_of_texts w)
      (λ r l.
      let (i, k, t, e) = of-rank (λ j. is_text (attribute_row w j)) (count_of_attributes w) r l in
      let f : (attribute_row w i).first ≡ r = eqb-true (attribute_row w i).first (rank w i) (rw t at (row-rank i k)) ∙ e in
      ap (λ (m : ℕ). factory_right defaults (factory_start w m) (factory_length w m)) (sym f)
      ∙ near-accepted w defaults edits (attribute_row w i).first (get_or texts (attribute_row w i).first 0) (near-here i k t) (formed i k t))

  -- WHAT THE QUICK TEST PASSES IS RIGHT
  pub quick-right : true ≡ (ranks_right w && (numbers_right w && (texts_right w defaults && held_right w defaults edits words nulls texts)))
  unfolding values_right
  quick-right =
      let k = sym (right-done w defaults edits (held_of words nulls texts) size (every-all (both_at w defaults edits (held_of words nulls texts)) (count_of_attributes w) row-right)) in
      sym (both (ranks_right w) _ (both _ _ (every-all (rank_right w) (count_of_attributes w) row-rank) (left _ _ counted))
      (both (numbers_right w) _ (left (numbers_right w) _ k) (both (texts_right w defaults) _ factory-texts (right (numbers_right w) _ k))))
