-- The quick test of what is held: every factory text and every changed text is valid, null or not, and each row passes a few comparisons. What it passes is right
-- (proofs/QuickLaws.antt); what it does not pass is looked at closely.
use Rattle.std.specs.Prelude.{Bool, true, false, not, ◌&&◌, ◌||◌, List, ℕ, ◌*◌, ◌-◌, ◌/◌, min, eqb, leb, ltb, length, get_or, take, drop, replicate}
use Rattle.std.specs.Bool.{beq}
use Rattle.base_bounds.specs.Bounds.{text_bytes_limit}
use Rattle.tlv_reader.specs.Octet.{pick}
use Rattle.base_utf8.specs.WellFormed.{well_formed}
use Rattle.base_utf8.specs.Bytewise.{all_below}
use Rattle.node_kinds.specs.Stored.{held}
use Rattle.node_schema.specs.Layout.{text_limit, text_size}
use Rattle.node_schema.specs.Rows.{attribute_row, count_of_attributes, is_text, factory_start, factory_length}
use Rattle.node_schema.specs.Check.{every, count, rank, count_of_texts}
use Rattle.node_plan.specs.Attributes.{kind_of}
use Rattle.node_plan.specs.Check.{number_right}
use Rattle.node_plan.specs.Pages.{place, unchanged}
use Rattle.server_values.specs.Valid.{mark_max}

-- p holds at one of the indices below n
unfoldable pub some : (ℕ → Bool) → ℕ → Bool
some p n = not (every (λ i. not (p i)) n)

abbrev pub some_null : List Bool → ℕ → Bool
some_null nulls n = some (λ i. get_or nulls i false) n

-- one of the first n texts is shown from the factory page (true), from the page of edits (false)
abbrev pub some_text : List ℕ → Bool → ℕ → Bool
some_text texts factory n = some (λ r. beq (unchanged (get_or texts r 0)) factory) n

-- how many texts a page of edits of this size has room for: all of the schema's, where the size is right
abbrev pub text_room : ℕ → ℕ
text_room size = min (size / text_size) text_limit

-- a page that no text has to be looked at in: none is shown from it, or it is no longer than the texts of a schema, and every byte is below 128
unfoldable pub plain_page : List ℕ → List ℕ → Bool → ℕ → Bool
unfolding some
plain_page page texts factory n = not (some_text texts factory n) || (leb (length page) (text_limit * text_size) && all_below 128 page)

-- where the text of rank r begins in the factory page (true), or in the page of edits (false), and its length there
abbrev pub start_in : List ℕ → Bool → ℕ → ℕ
start_in w factory r = pick factory (factory_start w r) (place r)

abbrev pub length_in : List ℕ → ℕ → Bool → ℕ → ℕ
length_in w mark factory r = pick factory (factory_length w r) (mark - 1)

-- the text of rank r, if it is shown from this page, is valid UTF-8
abbrev pub formed_at : List ℕ → List ℕ → List ℕ → Bool → ℕ → Bool
formed_at w page texts factory r =
    pick (beq (unchanged (get_or texts r 0)) factory) (well_formed (take (length_in w (get_or texts r 0) factory r) (drop (start_in w factory r) page))) true

-- up to which length a page is judged as a whole: what the texts of a schema take, and of edits two places for each text of more than half a place. It
-- decides how a page is judged, and not the answer
abbrev pub long_texts : List ℕ → ℕ → ℕ
long_texts texts n = count (λ r. ltb 101 (get_or texts r 0)) n

abbrev pub whole_limit : List ℕ → Bool → ℕ → ℕ
whole_limit texts factory n = pick factory (text_limit * text_size) (2 * text_size * long_texts texts n)

-- a text lies in its pages: its factory text, of n bytes at low, in the len bytes of the page of defaults; a changed one by its mark, since the page of edits
-- has room for every text
abbrev pub near : ℕ → ℕ → ℕ → ℕ → Bool
near low n mark len = leb mark mark_max && (leb n (min len text_bytes_limit) && leb low (len - n))

-- marks as where no text was changed: of the factory page every text is asked for, changed or not
abbrev pub unmarked : List ℕ
unmarked = replicate text_limit 0

-- a null is one that attribute i allows, and stored as 0
abbrev pub null_at : List ℕ → List ℕ → List Bool → ℕ → Bool
null_at w words nulls i = pick (get_or nulls i false) (eqb (attribute_row w i).nullable 1 && eqb (get_or words i 0) 0) true

-- a text of rank r
abbrev pub near_at : List ℕ → List ℕ → ℕ → ℕ → Bool
near_at w texts len r = near (factory_start w r) (factory_length w r) (get_or texts r 0) len

-- a number: its first value and what it holds
abbrev pub number_quick : List ℕ → List ℕ → List Bool → ℕ → Bool
number_quick w words nulls i =
    number_right (attribute_row w i) && held (kind_of (attribute_row w i)) (eqb (attribute_row w i).nullable 1) (get_or words i 0) (get_or nulls i false)

-- attribute i: a text by its rank, its word and its length, a number by its limits
abbrev pub quick_at : List ℕ → List ℕ → List Bool → List ℕ → ℕ → ℕ → Bool
quick_at w words nulls texts len i =
    pick (is_text (attribute_row w i))
    (eqb (attribute_row w i).first (rank w i) && (eqb (get_or words i 0) 0 && near_at w texts len (attribute_row w i).first))
    (number_quick w words nulls i)

-- every attribute, where the factory page has len bytes and the page of edits size; and not too many texts
unfoldable pub all_quick : List ℕ → List ℕ → List Bool → List ℕ → ℕ → ℕ → Bool
all_quick w words nulls texts len size = every (quick_at w words nulls texts len) (count_of_attributes w) && (leb (count_of_texts w) text_limit && eqb size (text_size * count_of_texts w))

-- THE QUICK TEST
unfoldable pub quick_right : List ℕ → List ℕ → List ℕ → List ℕ → List Bool → List ℕ → Bool
unfolding all_quick
quick_right w defaults edits words nulls texts =
    every (null_at w words nulls) (count_of_attributes w)
    && (every (formed_at w defaults unmarked true) (text_room (length edits))
    && (every (formed_at w edits texts false) (text_room (length edits)) && all_quick w words nulls texts (length defaults) (length edits)))
