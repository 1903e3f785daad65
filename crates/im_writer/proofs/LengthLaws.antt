-- How long what we write is.
use mathlib.Core.Path.{◌≡◌, refl, sym, ◌∙◌}
use mathlib.Core.Bool.{Bool}
use mathlib.Core.List.{List, [], ◌∷◌}
use Prim.Native.Nat.{ℕ, ◌+◌, ◌*◌, ◌^◌, ◌<◌, ◌≤◌}
use native.Mathlib.Nat.{suc-mul}
use native.Mathlib.Omega.{arith}
use lib.ListN.{length, length-append, take, drop, length-take, length-drop}
use Rattle.base_octets.specs.Number.{bytes_of}
use Rattle.tlv_reader.specs.Octet.{tag_width, number_width, head_octets}
use Rattle.tlv_reader.specs.Tree.{Tree}
use Rattle.tlv_reader.specs.declared.Value.{Value}
use Rattle.tlv_reader.specs.declared.Value.TheVariants as Parsed
use Rattle.tlv_reader.specs.Value.{Datum, datum_in}
use Rattle.tlv_writer.specs.declared.Tag.TheVariants.{Anonymous, Context}
use Rattle.tlv_writer.specs.Width.{least_width, least_of, width_code}
use Rattle.tlv_writer.specs.Element.{form_of, label_of, head_length, head_for, unsigned_octets, open_octets, datum_octets}
use Rattle.tlv_writer.proofs.Widths.{IsWidth, one, two, four, eight, unsigned-is-width, signed-is-width, unsigned-below}
use Rattle.tlv_writer.proofs.Octets.{length-unsigned, length-signed, length-boolean, length-null, length_float, length-text, length-open}
use Rattle.im_writer.specs.Spelling.{writer_tag, spelling, spellings, joined, Each}
use Rattle.im_writer.specs.Block.{path_tree, data_members, data_block_tree, status_tree, answer_members, answer_tree, status_block_tree, ShortText}
use Rattle.im_writer.specs.Message.{message_tree, revision, status_members, report_ending, report_members, report_opening, report_closing, response_opening, response_closing}
use Rattle.im_writer.proofs.SpellingLaws.{datum-back}

-- the least widths of numbers of 8, 16 and 32 bits
pub width8 : (v : ℕ) → v < 2 ^ 8 → least_width v ≤ 1
width8 v h = unsigned-below v one h

pub width16 : (v : ℕ) → v < 2 ^ 16 → least_width v ≤ 2
width16 v h = unsigned-below v two h

pub width32 : (v : ℕ) → v < 2 ^ 32 → least_width v ≤ 4
width32 v h = unsigned-below v four h

-- openings and numbers
pub anonymous-open : (kind : ℕ) → number_width kind ≡ 0 → length (open_octets Anonymous kind) ≡ 1
unfolding head_length form_of tag_width
anonymous-open kind e = length-open Anonymous kind e

pub context-open : (n kind : ℕ) → number_width kind ≡ 0 → length (open_octets (Context n) kind) ≡ 2
unfolding head_length form_of tag_width
context-open n kind e = length-open (Context n) kind e

pub context-unsigned : (n v : ℕ) → length (unsigned_octets (Context n) v) ≡ 2 + least_width v
unfolding head_length form_of tag_width
context-unsigned n v = length-unsigned (Context n) v

module _ (e c a : ℕ) where
  pub length-path : (tag : ℕ) → length (spelling (path_tree tag e c a)) ≡ 9 + least_width e + least_width c + least_width a
  unfolding spelling writer_tag datum_octets path_tree number_width
  length-path tag = simp (length-append, context-open tag 23 refl, context-unsigned) (omega arith)

  -- the tag does not matter
  pub same-path : (tag : ℕ) → length (spelling (path_tree tag e c a)) ≡ length (spelling (path_tree 0 e c a))
  same-path tag = length-path tag ∙ sym (length-path 0)

  pub length-data-block : (version : ℕ) (d : Datum) → length (spelling (data_block_tree version e c a d)) ≡ 7 + least_width version + length (spelling (path_tree 1 e c a)) + length (datum_octets (Context 2) d)
  unfolding spelling writer_tag data_block_tree data_members datum_octets number_width
  length-data-block version d = simp (length-append, datum-back, anonymous-open 21 refl, context-open 1 21 refl, context-unsigned) (omega arith)

  -- path and status, with the end of what holds them
  length-answer : (code : ℕ) → length (spellings (answer_members e c a code)) ≡ 6 + length (spelling (path_tree 0 e c a)) + least_width code
  unfolding spelling writer_tag answer_members status_tree datum_octets number_width
  length-answer code = simp (length-append, context-open 1 21 refl, context-unsigned) (omega arith)

  pub length-status-block : (code : ℕ) → length (spelling (status_block_tree e c a code)) ≡ 10 + length (spelling (path_tree 0 e c a)) + least_width code
  unfolding spelling writer_tag status_block_tree number_width
  length-status-block code = simp (length-append, anonymous-open 21 refl, context-open 0 21 refl, length-answer) (omega arith)

  pub length-write-status : (code : ℕ) → length (spelling (answer_tree e c a code)) ≡ 7 + length (spelling (path_tree 0 e c a)) + least_width code
  unfolding spelling writer_tag answer_tree number_width
  length-write-status code = simp (length-append, anonymous-open 21 refl, length-answer) (omega arith)

-- no element but a text is longer than 10 octets
pub width-most : {w : ℕ} → IsWidth w → w ≤ 8
width-most one = omega arith
width-most two = omega arith
width-most four = omega arith
width-most eight = omega arith

width-least : {w : ℕ} → IsWidth w → 1 ≤ w
width-least one = omega arith
width-least two = omega arith
width-least four = omega arith
width-least eight = omega arith

pub value-bound : (d : Datum) → ShortText d → length (datum_octets (Context 2) d) ≤ 203
unfolding ShortText datum_octets head_length form_of tag_width
value-bound Datum.null h = omega (arith, length-null (Context 2))
value-bound (Datum.boolean b) h = omega (arith, length-boolean (Context 2) b)
value-bound (Datum.unsigned n) h = omega (arith, context-unsigned 2 n, width-most (unsigned-is-width n))
value-bound (Datum.signed z) h = omega (arith, length-signed (Context 2) z, width-most (signed-is-width z))
value-bound (Datum.float n) h = omega (arith, length_float (Context 2) n)
value-bound (Datum.text bs) h = omega (arith, length-text (Context 2) bs, width8 (length bs) (omega arith))
value-bound Datum.other h = omega arith

-- and a text by what the page has
pub value-within : (page : List ℕ) (v : Value) → length (datum_octets (Context 2) (datum_in page v)) ≤ 10 + length page
unfolding datum_octets head_length form_of tag_width
value-within page Parsed.Null = omega (arith, length-null (Context 2))
value-within page (Parsed.Boolean b) = omega (arith, length-boolean (Context 2) b)
value-within page (Parsed.Unsigned n) = omega (arith, context-unsigned 2 n, width-most (unsigned-is-width n))
value-within page (Parsed.Signed z) = omega (arith, length-signed (Context 2) z, width-most (signed-is-width z))
value-within page (Parsed.Float n) = omega (arith, length_float (Context 2) n)
value-within page (Parsed.Text start n) =
    let bs = take n (drop start page) in
    omega (arith, length-text (Context 2) bs, width-most (unsigned-is-width (length bs)), length-take n (drop start page), length-drop start page)
value-within page Parsed.Other = omega arith

-- THE BOUNDS of what the server writes: a block, and a status of a write response
module _ (e c a : ℕ) (fe : e < 2 ^ 16) (fc : c < 2 ^ 32) (fa : a < 2 ^ 32) where
  pub path-bound : (tag : ℕ) → length (spelling (path_tree tag e c a)) ≤ 19
  path-bound tag = omega (arith, length-path e c a tag, width16 e fe, width32 c fc, width32 a fa)

  pub data-block-bound : (version : ℕ) (d : Datum) → version < 2 ^ 32 → ShortText d → length (spelling (data_block_tree version e c a d)) ≤ 233
  data-block-bound version d fv fd =
      omega (arith, length-data-block e c a version d, width32 version fv, path-bound 1, value-bound d fd)

  pub data-block-within : (version : ℕ) (page : List ℕ) (v : Value) → version < 2 ^ 32 → length (spelling (data_block_tree version e c a (datum_in page v))) ≤ 40 + length page
  data-block-within version page v fv =
      omega (arith, length-data-block e c a version (datum_in page v), width32 version fv, path-bound 1, value-within page v)

  pub status-block-bound : (code : ℕ) → code < 2 ^ 8 → length (spelling (status_block_tree e c a code)) ≤ 30
  status-block-bound code f = omega (arith, length-status-block e c a code, width8 code f, path-bound 0)

  pub write-status-bound : (code : ℕ) → code < 2 ^ 8 → length (spelling (answer_tree e c a code)) ≤ 27
  write-status-bound code f = omega (arith, length-write-status e c a code, width8 code f, path-bound 0)

-- trees of at most k octets each
pub joined-bound : (k : ℕ) (l : List Tree) → Each (λ t. length (spelling t) ≤ k) l → length (joined l) ≤ length l * k
unfolding joined Each
joined-bound k [] h = omega arith
joined-bound k (t ∷ l) h = omega (arith, length-append (spelling t) (joined l), h.0, joined-bound k l h.1, suc-mul (length l) k)

-- frames
pub length-revision : length (spellings revision) ≡ 4
unfolding spelling writer_tag revision datum_octets unsigned_octets head_for head_octets bytes_of tag_width number_width form_of label_of least_width least_of width_code
length-revision = refl

pub length-ending : (m : Bool) → length (spellings (report_ending m)) ≡ 6
unfolding spelling writer_tag report_ending datum_octets head_length form_of tag_width
length-ending m = simp (length-append, length-boolean, length-revision) (omega arith)

pub length-opening : length report_opening ≡ 3
unfolding report_opening number_width
length-opening = simp (length-append, anonymous-open 21 refl, context-open 1 22 refl)

pub length-closing : (m : Bool) → length (report_closing m) ≡ 7
unfolding report_closing
length-closing m = simp length-ending

pub length-empty-report : (m : Bool) → length (spelling (message_tree (report_members [] m))) ≡ 7
unfolding spelling writer_tag report_members number_width
length-empty-report m = simp (length-append, anonymous-open 21 refl, length-ending)

pub length-response-opening : length response_opening ≡ 3
unfolding response_opening number_width
length-response-opening = simp (length-append, anonymous-open 21 refl, context-open 0 22 refl)

pub length-response-closing : length response_closing ≡ 5
unfolding response_closing
length-response-closing = simp length-revision

pub length-status-response : (code : ℕ) → code < 2 ^ 8 → length (spelling (message_tree (status_members code))) ≡ 8
unfolding spelling writer_tag status_members datum_octets number_width
length-status-response code h =
    simp (length-append, anonymous-open 21 refl, context-unsigned, length-revision) (omega (arith, width8 code h, width-least (unsigned-is-width code)))
