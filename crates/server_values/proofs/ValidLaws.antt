-- The check of a server's values, test by test.
use mathlib.Core.Path.{◌≡◌, refl, sym, ap, ◌∙◌}
use mathlib.Core.Bool.{Bool, true, false, ◌&&◌}
use mathlib.Core.List.{List, []}
use Prim.Native.Nat.{ℕ, ◌*◌, ◌-◌, ◌≤◌, ◌<◌}
use native.Mathlib.Omega.{arith}
use borrow.Author.Tests.{eqb-true, eq-eqb, ne_eqb, le-leb, lt-leb, leb-true}
use lib.Dec.{eqb, leb}
use lib.ListN.{length, get_or, take, drop}
use Rattle.base_bounds.specs.Bounds.{text_bytes_limit}
use Rattle.base_utf8.specs.WellFormed.{well_formed}
use Rattle.base_utf8.specs.Boundary.{cut_well}
use Rattle.base_utf8.proofs.Cuts.{cut-exactly}
use Rattle.node_schema.specs.Layout.{text_size}
use Rattle.node_schema.specs.Rows.{attribute_row, count_of_attributes, is_text, factory_start, factory_length}
use Rattle.node_schema.specs.Check.{every, count_of_texts}
use Rattle.node_schema.proofs.BoolLaws.{both, left, right}
use Rattle.node_schema.proofs.CheckLaws.{every-at, every-all}
use Rattle.tlv_reader.specs.Octet.{pick}
use Rattle.node_kinds.specs.declared.Kind.TheVariants.{Text}
use Rattle.node_kinds.specs.Stored.{held}
use Rattle.node_plan.specs.Attributes.{kind_of}
use Rattle.node_plan.specs.Check.{number_right, numbers_right}
use Rattle.node_plan.specs.Pages.{place, shown_text}
use Rattle.node_plan.proofs.KindLaws.{kind-text}
use Rattle.server_values.specs.declared.Values.{Values}
use Rattle.server_values.specs.Values.{rank_text, rank_length, mark_at, text_at, shown_of}
use Rattle.server_values.specs.Valid.{mark_max, shown_right, text_right, shown_at, value_right, values_right}

-- the limits of attribute i allow what is held
abbrev pub within_limits : List ℕ → ℕ → ℕ → Bool → Bool
within_limits w i word is_null = held (kind_of (attribute_row w i)) (eqb (attribute_row w i).nullable 1) word is_null

pub and-true : (x : Bool) → x ≡ (x && true)
and-true true = refl
and-true false = refl

-- ---- a shown text

module _ (shown : List ℕ) (n : ℕ) where
  pub too_long : text_bytes_limit < n → false ≡ shown_right shown n
  unfolding shown_right
  too_long l = rw (lt-leb n text_bytes_limit l)

  module _ (l : n ≤ text_bytes_limit) where
    pub not-whole : eqb (length shown) n ≡ false → false ≡ shown_right shown n
    unfolding shown_right
    not-whole h = rw (le-leb n text_bytes_limit l, h)

    pub whole-text : eqb (length shown) n ≡ true → well_formed shown ≡ shown_right shown n
    unfolding shown_right
    whole-text h = rw (le-leb n text_bytes_limit l, h)

  -- what is right is short, and valid
  pub right-short : shown_right shown n ≡ true → length shown ≤ text_bytes_limit
  unfolding shown_right
  right-short h =
      let r = right (leb n text_bytes_limit) _ h in
      omega (arith, leb-true n text_bytes_limit (left _ _ h), eqb-true (length shown) n (left _ _ r))

  pub right-formed : shown_right shown n ≡ true → well_formed shown ≡ true
  unfolding shown_right
  right-formed h = right (eqb (length shown) n) _ (right (leb n text_bytes_limit) _ h)

-- the part of a well-formed page is right exactly if the page has it and it is cut at boundaries
pub cut_right : (page : List ℕ) (start len : ℕ) → well_formed page ≡ true → len ≤ text_bytes_limit → eqb (length (take len (drop start page))) len ≡ true → cut_well page start len ≡ shown_right (take len (drop start page)) len
cut_right page start len p l h = sym (cut-exactly page start len p) ∙ whole-text (take len (drop start page)) len l h

-- ---- the text of a rank

module _ (w defaults edits : List ℕ) (r mark : ℕ) where
  abbrev rank_shown : Bool
  rank_shown = shown_right (rank_text w defaults edits r mark) (rank_length w r mark)

  -- a part of the page of defaults, or of the page of edits
  pub rank-cut : mark ≡ 0 → shown_right (take (factory_length w r) (drop (factory_start w r) defaults)) (factory_length w r) ≡ rank_shown
  unfolding shown_text
  rank-cut e = rw (eq-eqb mark 0 e)

  pub rank-changed : (mark ≡ 0 → ⊥) → shown_right (take (mark - 1) (drop (place r) edits)) (mark - 1) ≡ rank_shown
  unfolding shown_text
  rank-changed n = rw (ne_eqb mark 0 n)

  module _ (is_null : Bool) where
    pub mark-large : mark_max < mark → false ≡ text_right w defaults edits r is_null mark
    unfolding text_right
    mark-large l = rw (lt-leb mark mark_max l)

    module _ (l : mark ≤ mark_max) where
      pub text-null : is_null ≡ true → true ≡ text_right w defaults edits r is_null mark
      unfolding text_right
      text-null n = rw (le-leb mark mark_max l, n)

      pub text-there : is_null ≡ false → rank_shown ≡ text_right w defaults edits r is_null mark
      unfolding text_right
      text-there n = rw (le-leb mark mark_max l, n)

    pub mark-right : text_right w defaults edits r is_null mark ≡ true → mark ≤ mark_max
    unfolding text_right
    mark-right h = leb-true mark mark_max (left _ _ h)

    -- so one that is not null is shown
    pub shown-here : text_right w defaults edits r is_null mark ≡ true → is_null ≡ false → rank_shown ≡ true
    unfolding text_right
    shown-here h n = let s = right (leb mark mark_max) _ h in rw n at s

-- ---- attribute i

module _ (w defaults edits : List ℕ) (i : ℕ) (is_null : Bool) (mark : ℕ) where
  pub shown-none : is_text (attribute_row w i) ≡ false → true ≡ shown_at w defaults edits i is_null mark
  shown-none t = rw t

  pub shown-text : is_text (attribute_row w i) ≡ true → text_right w defaults edits (attribute_row w i).first is_null mark ≡ shown_at w defaults edits i is_null mark
  shown-text t = rw t

module _ (w defaults edits : List ℕ) (i word : ℕ) (is_null : Bool) (mark : ℕ) where
  module _ (t : is_text (attribute_row w i) ≡ false) where
    -- the limits alone decide where there is no text
    pub number-right : within_limits w i word is_null ≡ value_right w defaults edits i word is_null mark
    unfolding value_right
    number-right = rw t (and-true (within_limits w i word is_null) ∙ and-true (within_limits w i word is_null && true))

    pub number-row : (number_right (attribute_row w i) && within_limits w i word is_null) ≡ (number_right (attribute_row w i) && value_right w defaults edits i word is_null mark)
    number-row = ap (λ (b : Bool). number_right (attribute_row w i) && b) number-right

  module _ (t : is_text (attribute_row w i) ≡ true) where
    -- a text has no first number
    pub text-first : number_right (attribute_row w i) ≡ true
    unfolding number_right
    text-first = rw (eqb-true (attribute_row w i).kind 4 t)

    text-kind : kind_of (attribute_row w i) ≡ Text
    text-kind = kind-text (attribute_row w i) (eqb-true (attribute_row w i).kind 4 t)

    text-limits : within_limits w i word is_null ≡ pick is_null (eqb (attribute_row w i).nullable 1 && eqb word 0) (leb word text_bytes_limit)
    unfolding held
    text-limits = rw text-kind

    -- its word is 0, and a null one is allowed
    pub text-within : pick is_null (eqb (attribute_row w i).nullable 1 && eqb word 0) true ≡ true → word ≡ 0 → within_limits w i word is_null ≡ true
    text-within n z = text-limits ∙ go is_null n
      where
        go : (b : Bool) → pick b (eqb (attribute_row w i).nullable 1 && eqb word 0) true ≡ true → pick b (eqb (attribute_row w i).nullable 1 && eqb word 0) (leb word text_bytes_limit) ≡ true
        go true h = h
        go false h = le-leb word text_bytes_limit (omega (arith, z))

    pub text-right : within_limits w i word is_null ≡ true → word ≡ 0 → text_right w defaults edits (attribute_row w i).first is_null mark ≡ value_right w defaults edits i word is_null mark
    unfolding value_right
    text-right h z = rw (h, eq-eqb word 0 z, t)

-- ---- the check by index

-- what is held, as the code is lent it: the versions are judged by nothing here
abbrev pub held_of : List ℕ → List Bool → List ℕ → Values
held_of words nulls texts = record { words = words; nulls = nulls; texts = texts; versions = [] }

-- attribute i holds what it may
abbrev pub right_at : List ℕ → List ℕ → List ℕ → Values → ℕ → Bool
right_at w defaults edits v i = value_right w defaults edits i (get_or v.words i 0) (get_or v.nulls i false) (mark_at w v.texts i)

module _ (w defaults edits : List ℕ) (v : Values) where
  pub edits-size : values_right w defaults edits v ≡ true → length edits ≡ text_size * count_of_texts w
  unfolding values_right
  edits-size h = eqb-true _ _ (left (eqb (length edits) (text_size * count_of_texts w)) _ h)

  pub right-at : values_right w defaults edits v ≡ true → (i : ℕ) → i < count_of_attributes w → right_at w defaults edits v i ≡ true
  unfolding values_right
  right-at h = every-at (right_at w defaults edits v) (count_of_attributes w) (right (eqb (length edits) (text_size * count_of_texts w)) _ h)

  pub right-all : length edits ≡ text_size * count_of_texts w → ((i : ℕ) → i < count_of_attributes w → right_at w defaults edits v i ≡ true) → values_right w defaults edits v ≡ true
  unfolding values_right
  right-all s f = both _ _ (eq-eqb _ _ s) (every-all (right_at w defaults edits v) (count_of_attributes w) f)

  -- the code's tests: first values and values in one loop
  abbrev pub all_right : Bool
  all_right = numbers_right w && values_right w defaults edits v

  abbrev pub both_at : ℕ → Bool
  both_at i = number_right (attribute_row w i) && right_at w defaults edits v i

  pub at_each : all_right ≡ true → (i : ℕ) → i < count_of_attributes w → both_at i ≡ true
  unfolding numbers_right
  at_each h i l =
      both (number_right (attribute_row w i)) (right_at w defaults edits v i)
      (every-at (λ k. number_right (attribute_row w k)) (count_of_attributes w) (left (numbers_right w) (values_right w defaults edits v) h) i l)
      (right-at (right (numbers_right w) (values_right w defaults edits v) h) i l)

  pub right-done : length edits ≡ text_size * count_of_texts w → every both_at (count_of_attributes w) ≡ true → true ≡ all_right
  unfolding numbers_right
  right-done s h =
      let f = every-at both_at (count_of_attributes w) h in
      sym (both (numbers_right w) (values_right w defaults edits v)
      (every-all (λ k. number_right (attribute_row w k)) (count_of_attributes w) (λ i l. left (number_right (attribute_row w i)) (right_at w defaults edits v i) (f i l)))
      (right-all s (λ i l. right (number_right (attribute_row w i)) (right_at w defaults edits v i) (f i l))))

  -- what is held is within its limits
  pub limits-at : (i : ℕ) → right_at w defaults edits v i ≡ true → within_limits w i (get_or v.words i 0) (get_or v.nulls i false) ≡ true
  unfolding value_right
  limits-at i h = left (within_limits w i (get_or v.words i 0) (get_or v.nulls i false)) _ (left _ _ h)

  -- a text's word is 0, and it shows a right one
  module _ (i : ℕ) (t : is_text (attribute_row w i) ≡ true) (h : right_at w defaults edits v i ≡ true) where
    pub word_none : get_or v.words i 0 ≡ 0
    unfolding value_right
    word_none =
        let e = right (within_limits w i (get_or v.words i 0) (get_or v.nulls i false)) _ (left _ _ h) in
        eqb-true (get_or v.words i 0) 0 (rw t at e)

    pub text-here : text_right w defaults edits (attribute_row w i).first (get_or v.nulls i false) (mark_at w v.texts i) ≡ true
    unfolding value_right
    text-here =
        let s = right (within_limits w i (get_or v.words i 0) (get_or v.nulls i false) && pick (is_text (attribute_row w i)) (eqb (get_or v.words i 0) 0) true) _ h in
        rw t at s

  -- so a text that is not null is shown short and valid
  pub shown-fits : (i : ℕ) → is_text (attribute_row w i) ≡ true → get_or v.nulls i false ≡ false → right_at w defaults edits v i ≡ true → (length (shown_of w defaults edits v i) ≤ text_bytes_limit) × (well_formed (shown_of w defaults edits v i) ≡ true)
  unfolding text_at
  shown-fits i t n h =
      let r = (attribute_row w i).first in
      let mark = mark_at w v.texts i in
      let s = shown-here w defaults edits r mark (get_or v.nulls i false) (text-here i t h) n in
      rw t (right-short (rank_text w defaults edits r mark) (rank_length w r mark) s, right-formed (rank_text w defaults edits r mark) (rank_length w r mark) s)
