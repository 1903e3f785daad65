-- What a server may hold (refusal 2, RULES 6.1): values within their limits, shown texts that lie in
-- their page and are valid UTF-8, a page of edits of its size.
use Rattle.std.specs.Prelude.{Bool, true, false, ◌&&◌, List, ℕ, ◌+◌, ◌*◌, eqb, leb, length, get_or}
use Rattle.base_bounds.specs.Bounds.{text_bytes_limit}
use Rattle.tlv_reader.specs.Octet.{pick}
use Rattle.base_utf8.specs.WellFormed.{well_formed}
use Rattle.node_kinds.specs.Stored.{held}
use Rattle.node_schema.specs.Layout.{text_size}
use Rattle.node_schema.specs.Rows.{AttributeRow, attribute_row, count_of_attributes, is_text}
use Rattle.node_schema.specs.Check.{every, count_of_texts}
use Rattle.node_plan.specs.Attributes.{kind_of}
use Rattle.server_values.specs.declared.Values.{Values}
use Rattle.server_values.specs.Values.{rank_text, rank_length, mark_at}

-- the highest mark: that of a text of 200 bytes
abbrev pub mark_max : ℕ
mark_max = text_bytes_limit + 1

-- a shown text of n bytes, at most 200, lies in its page, whole, and is valid UTF-8
unfoldable pub shown_right : List ℕ → ℕ → Bool
shown_right shown n = leb n text_bytes_limit && (eqb (length shown) n && well_formed shown)

-- the text of a rank: its mark, and unless it is null what is shown
unfoldable pub text_right : List ℕ → List ℕ → List ℕ → ℕ → Bool → ℕ → Bool
unfolding shown_right
text_right w defaults edits r is_null mark = leb mark mark_max && pick is_null true (shown_right (rank_text w defaults edits r mark) (rank_length w r mark))

-- attribute i, if it is a text, shows a right one
abbrev pub shown_at : List ℕ → List ℕ → List ℕ → ℕ → Bool → ℕ → Bool
shown_at w defaults edits i is_null mark = pick (is_text (attribute_row w i)) (text_right w defaults edits (attribute_row w i).first is_null mark) true

-- the 64 bits of a value are such as its limits allow, and 0 of a text
abbrev pub word_right : AttributeRow → ℕ → Bool → Bool
word_right a word is_null = held (kind_of a) (eqb a.nullable 1) word is_null && pick (is_text a) (eqb word 0) true

unfoldable pub value_right : List ℕ → List ℕ → List ℕ → ℕ → ℕ → Bool → ℕ → Bool
unfolding text_right
value_right w defaults edits i word is_null mark = word_right (attribute_row w i) word is_null && shown_at w defaults edits i is_null mark

-- what is held by index, whatever the versions are
abbrev pub held_right : List ℕ → List ℕ → List ℕ → List ℕ → List Bool → List ℕ → Bool
unfolding value_right
held_right w defaults edits words nulls texts =
    eqb (length edits) (text_size * count_of_texts w)
    && every (λ i. value_right w defaults edits i (get_or words i 0) (get_or nulls i false) (mark_at w texts i)) (count_of_attributes w)

-- the texts alone
abbrev pub all_shown : List ℕ → List ℕ → List ℕ → List Bool → List ℕ → Bool
all_shown w defaults edits nulls texts = every (λ i. shown_at w defaults edits i (get_or nulls i false) (mark_at w texts i)) (count_of_attributes w)

unfoldable pub values_right : List ℕ → List ℕ → List ℕ → Values → Bool
unfolding value_right
values_right w defaults edits v = held_right w defaults edits v.words v.nulls v.texts
