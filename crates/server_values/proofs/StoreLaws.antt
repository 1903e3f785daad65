-- Storing a value moves exactly one attribute, and keeps the rules.
use mathlib.Core.Path.{◌≡◌, refl, sym, ◌∙◌}
use mathlib.Core.List.{List}
use mathlib.Core.Bool.{true, false}
use Prim.Native.Nat.{ℕ, ◌+◌, ◌≤◌, ◌<◌}
use native.Mathlib.Omega.{arith}
use borrow.Author.Tests.{eqb-true, eqb-false, eq-eqb}
use lib.Dec.{eqb}
use lib.ListN.{length, get_or, length-set}
use lib.Seq.{get_or-set_same, get_or-set_other}
use Rattle.base_bounds.specs.Bounds.{cluster_limit}
use Rattle.base_octets.proofs.StoreLaws.{length-store}
use Rattle.tlv_reader.specs.Value.{Datum}
use Rattle.node_kinds.specs.Limits.{is_null}
use Rattle.node_kinds.specs.Stored.{next_version}
use Rattle.node_schema.specs.Layout.{text_limit, text_size}
use Rattle.node_schema.specs.Rows.{attribute_row, count_of_attributes, factory_start, factory_length}
use Rattle.node_schema.specs.Rows as rows
use Rattle.node_schema.proofs.BoolLaws.{by-test}
use Rattle.node_schema.proofs.PathLaws.{cluster-there}
use Rattle.node_schema.proofs.TextLaws.{text-inside}
use Rattle.node_plan.specs.Pages.{place, padded, PlacesFormed}
use Rattle.node_plan.proofs.PageLaws.{padded-length, stored-shown}
use Rattle.node_plan.proofs.TextLaws.{place-fits, ranks-apart, text-stays}
use Rattle.node_plan.proofs.FormedLaws.{stored-placed}
use Rattle.server_values.specs.declared.Values.{Values}
use Rattle.server_values.specs.Values.{rank_text, rank_length, mark_at, text_at, shown_of, datum_at}
use Rattle.server_values.specs.Change.{text_of, is_text, word_for, mark_for, changes, set_at, edits_set, stored_values, stored_edits}
use Rattle.server_values.specs.Valid.{mark_max, text_right, value_right, values_right}
use Rattle.server_values.proofs.ChangeLaws.{null-no-text, null_word_lem, text-word, mark-length}
use Rattle.server_values.proofs.ValueLaws.{mark-there, text-row}
use Rattle.server_values.proofs.AcceptedLaws.{own-kind, text-present}
use Rattle.server_values.specs.Storing.{Whole, Storing}
use Rattle.server_values.proofs.ValidLaws.{whole-text, text-null, text-there, mark-right, number-right, text-right, right_at, edits-size, right-at, right-all, text-here}

-- the page of edits keeps its length
pub edits-length : (w edits : List ℕ) (i : ℕ) (d : Datum) → length (edits_set w edits i d) ≡ length edits
unfolding edits_set
edits-length w edits i d =
    by-test (is_text d) (λ t. rw t (length-store edits (place (attribute_row w i).first) (padded (text_of d)))) (λ t. rw t)

-- ---- what is to be stored, and where

module _ (w defaults edits : List ℕ) (v : Values) (i : ℕ) (d : Datum) (s : Storing w defaults edits v i d) where
  text-goes : is_text d ≡ true → rows.is_text (attribute_row w i) ≡ true
  text-goes t = text-row (attribute_row w i) ∙ sym (own-kind s.accepted (text-present d t)) ∙ t

  -- there is room for the text and its mark, and a version to raise
  store-room : is_text d ≡ true → place (attribute_row w i).first + length (text_of d) ≤ length edits
  store-room t = omega (arith, place-fits w s.rules i (length (text_of d)) (s.there, text-goes t) s.accepted.size, edits-size w defaults edits v s.right)

  mark-room : is_text d ≡ true → (attribute_row w i).first < text_limit
  mark-room t = omega (arith, text-inside w s.rules i s.there (text-goes t), s.rules.text_number)

  pub cluster-room : (attribute_row w i).index_of_cluster < cluster_limit
  cluster-room = omega (arith, cluster-there w s.rules i s.there)

  -- ---- the attribute itself

  pub word_set : get_or (set_at w v i d).words i 0 ≡ word_for d
  unfolding set_at
  word_set = get_or-set_same v.words i (word_for d) 0 (omega (arith, s.whole.words, s.there))

  pub null-set : get_or (set_at w v i d).nulls i false ≡ is_null d
  unfolding set_at
  null-set = get_or-set_same v.nulls i (is_null d) false (omega (arith, s.whole.nulls, s.there))

  mark_set : is_text d ≡ true → mark_at w (set_at w v i d).texts i ≡ mark_for d
  unfolding set_at
  mark_set t =
      mark-there (set_at w v i d).texts (attribute_row w i).first (mark-room t)
      ∙ rw t (get_or-set_same v.texts (attribute_row w i).first (mark_for d) 0 (omega (arith, mark-room t, s.whole.texts)))

  rank-set : is_text d ≡ true → rank_text w defaults (edits_set w edits i d) (attribute_row w i).first (mark_for d) ≡ text_of d
  unfolding edits_set
  rank-set t =
      rw t
      (stored-shown defaults edits (attribute_row w i).first (text_of d) (store-room t) (factory_start w (attribute_row w i).first) (factory_length w (attribute_row w i).first))

  -- a text's word is 0, and null's
  no_word : rows.is_text (attribute_row w i) ≡ true → word_for d ≡ 0
  no_word t =
      by-test (is_null d) (null_word_lem d) (λ n. sym (text-word d (own-kind s.accepted n ∙ sym (text-row (attribute_row w i)) ∙ t)))

  pub shown-set : is_text d ≡ true → shown_of w defaults (edits_set w edits i d) (set_at w v i d) i ≡ text_of d
  unfolding text_at
  shown-set t = rw (mark_set t, text-goes t) (rank-set t)

  -- ---- every other attribute

  module _ (j : ℕ) (other : j ≡ i → ⊥) where
    word-stays : get_or (set_at w v i d).words j 0 ≡ get_or v.words j 0
    unfolding set_at
    word-stays = get_or-set_other v.words i j (word_for d) 0 other

    null-stays : get_or (set_at w v i d).nulls j false ≡ get_or v.nulls j false
    unfolding set_at
    null-stays = get_or-set_other v.nulls i j (is_null d) false other

    module _ (l : j < count_of_attributes w) where
      here : right_at w defaults edits v j ≡ true
      here = right-at w defaults edits v s.right j l

      module _ (t : rows.is_text (attribute_row w j) ≡ true) where
        mark-stays : mark_at w (set_at w v i d).texts j ≡ mark_at w v.texts j
        unfolding set_at
        mark-stays =
            by-test (is_text d)
            (λ u. rw (u, get_or-set_other v.texts (attribute_row w i).first (attribute_row w j).first (mark_for d) 0 (ranks-apart w s.rules j i (l, t) (s.there, text-goes u) other)))
            (λ u. rw u)

        -- what is shown of it
        text-kept : rank_text w defaults (edits_set w edits i d) (attribute_row w j).first (mark_at w v.texts j) ≡ rank_text w defaults edits (attribute_row w j).first (mark_at w v.texts j)
        unfolding edits_set
        text-kept =
            by-test (is_text d)
            (λ u.
            rw u
            (text-stays w s.rules defaults edits (padded (text_of d)) i j (factory_start w (attribute_row w j).first) (factory_length w (attribute_row w j).first) (mark_at w v.texts j) (s.there, text-goes u) (l, t) other (omega (arith, padded-length (text_of d) s.accepted.size))
            (mark-right w defaults edits (attribute_row w j).first (mark_at w v.texts j) (get_or v.nulls j false) (text-here w defaults edits v j t here))))
            (λ u. rw u)

      shown-stays : shown_of w defaults (edits_set w edits i d) (set_at w v i d) j ≡ shown_of w defaults edits v j
      unfolding text_at
      shown-stays = by-test (rows.is_text (attribute_row w j)) (λ t. rw (t, mark-stays t) (text-kept t)) (λ t. rw t)

      right-stays : right_at w defaults (edits_set w edits i d) (set_at w v i d) j ≡ true
      unfolding value_right text_right
      right-stays =
          by-test (rows.is_text (attribute_row w j)) (λ t. rw (word-stays, null-stays, mark-stays t, text-kept t) here)
          (λ t. rw (word-stays, null-stays, t) (rw t at here))

      pub datum-stays : datum_at w defaults (edits_set w edits i d) (set_at w v i d) j ≡ datum_at w defaults edits v j
      unfolding datum_at
      datum-stays = rw (shown-stays, word-stays, null-stays)

  -- ---- the rules are kept

  -- a stored text is right
  text-set : is_text d ≡ true → text_right w defaults (edits_set w edits i d) (attribute_row w i).first (is_null d) (mark_for d) ≡ true
  text-set t =
      let e = edits_set w edits i d in
      let r = (attribute_row w i).first in
      let shown = rank_text w defaults e r (mark_for d) in
      let q : shown ≡ text_of d = rank-set t in
      let n : rank_length w r (mark_for d) ≡ length (text_of d) = mark-length d (factory_length w r) in
      sym (text-there w defaults e r (mark_for d) (is_null d) (omega (arith, s.accepted.size)) (text-present d t))
      ∙ rw (n, q) (sym (whole-text (text_of d) (length (text_of d)) s.accepted.size (eq-eqb (length (text_of d)) (length (text_of d)) refl)) ∙ s.accepted.valid)

  -- null leaves the mark of a text as it is
  null-mark : is_null d ≡ true → rows.is_text (attribute_row w i) ≡ true → mark_at w (set_at w v i d).texts i ≤ mark_max
  unfolding set_at
  null-mark n t =
      let here = right-at w defaults edits v s.right i s.there in
      rw (null-no-text d n) (mark-right w defaults edits (attribute_row w i).first (mark_at w v.texts i) (get_or v.nulls i false) (text-here w defaults edits v i t here))

  text-row-set : rows.is_text (attribute_row w i) ≡ true → text_right w defaults (edits_set w edits i d) (attribute_row w i).first (is_null d) (mark_at w (set_at w v i d).texts i) ≡ true
  text-row-set t =
      by-test (is_null d) (λ n. sym (text-null w defaults (edits_set w edits i d) (attribute_row w i).first (mark_at w (set_at w v i d).texts i) (is_null d) (null-mark n t) n))
      (λ n. let u = own-kind s.accepted n ∙ sym (text-row (attribute_row w i)) ∙ t in rw (mark_set u) (text-set u))

  right-set : right_at w defaults (edits_set w edits i d) (set_at w v i d) i ≡ true
  right-set =
      let e = edits_set w edits i d in
      let mark = mark_at w (set_at w v i d).texts i in
      rw (word_set, null-set)
      (by-test (rows.is_text (attribute_row w i))
      (λ t. sym (text-right w defaults e i (word_for d) (is_null d) mark t s.accepted.within (no_word t)) ∙ text-row-set t)
      (λ t. sym (number-right w defaults e i (word_for d) (is_null d) mark t) ∙ s.accepted.within))

  all_right_lem : values_right w defaults (edits_set w edits i d) (set_at w v i d) ≡ true
  all_right_lem =
      right-all w defaults (edits_set w edits i d) (set_at w v i d)
      (edits-length w edits i d ∙ edits-size w defaults edits v s.right)
      (λ j l. by-test (eqb j i) (λ t. rw (eqb-true j i t) right-set) (λ t. right-stays j (eqb-false j i t) l))

  -- storing a value that the verdict allows keeps the rules
  pub store_keeps : values_right w defaults (stored_edits w defaults edits v i d) (stored_values w defaults edits v i d) ≡ true
  unfolding stored_edits stored_values
  store_keeps = by-test (changes w defaults edits v i d) (λ c. rw c all_right_lem) (λ c. rw c s.right)

  -- and a page of edits whose places are valid as it is: so it is valid as a whole (node, FormedLaws: page-formed)
  pub formed-kept : (n : ℕ) → PlacesFormed edits n → PlacesFormed (stored_edits w defaults edits v i d) n
  unfolding stored_edits edits_set
  formed-kept n f =
      by-test (changes w defaults edits v i d)
      (λ c. by-test (is_text d)
      (λ t. rw (c, t)
      (stored-placed edits (attribute_row w i).first (text_of d) s.accepted.size s.accepted.valid
      (omega (arith, place-fits w s.rules i text_size (s.there, text-goes t) (omega arith), edits-size w defaults edits v s.right)) n f))
      (λ t. rw (c, t) f))
      (λ c. rw c f)

  -- the arrays keep their lengths
  whole_set : Whole (set_at w v i d)
  unfolding set_at
  whole_set =
      record {
        words = length-set v.words i (word_for d) ∙ s.whole.words;
        nulls = length-set v.nulls i (is_null d) ∙ s.whole.nulls;
        texts = by-test (is_text d) (λ t. rw t (length-set v.texts (attribute_row w i).first (mark_for d) ∙ s.whole.texts)) (λ t. rw t s.whole.texts);
        versions = length-set v.versions (attribute_row w i).index_of_cluster (next_version (get_or v.versions (attribute_row w i).index_of_cluster 0)) ∙ s.whole.versions;
      }

  pub whole-kept : Whole (stored_values w defaults edits v i d)
  unfolding stored_values
  whole-kept = by-test (changes w defaults edits v i d) (λ c. rw c whole_set) (λ c. rw c s.whole)
