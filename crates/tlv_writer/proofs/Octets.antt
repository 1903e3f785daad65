-- Laws of the octets of an element: their parts and their lengths.
use mathlib.Core.Path.{◌≡◌, refl, sym, ap, ◌∙◌}
use mathlib.Core.Bool.{Bool, true, false}
use mathlib.Core.List.{List, [], ◌∷◌, ◌++◌, append-nil}
use Prim.Native.Nat.{ℕ, zero, suc, ◌+◌, ◌-◌, ◌%◌, ◌^◌, ◌<◌, ◌≤◌}
use native.Mathlib.Omega.{arith}
use lib.IntN.{ℤ}
use lib.ListN.{length, length-append}
use lib.Signed.{mag}
use Rattle.base_octets.specs.Number.{bytes_of}
use Rattle.base_octets.specs.Store.{Stored}
use Rattle.base_octets.proofs.NumberLaws.{length-bytes}
use Rattle.base_octets.proofs.StoreLaws.{then}
use Rattle.tlv_reader.specs.Octet.{tag_width, number_width, head_octets, structure, end_of_container}
use Rattle.tlv_writer.specs.declared.Tag.{Tag}
use Rattle.tlv_writer.specs.declared.Tag.TheVariants.{Anonymous, Context}
use Rattle.tlv_writer.specs.Width.{least_width, least_signed_width, twos}
use Rattle.tlv_writer.specs.Element.{form_of, label_of, start_octets, head_length, head_for, signed_kind, boolean_kind, null_kind, unsigned_octets, signed_octets, boolean_octets, null_octets, float_octets, text_octets, open_octets}
use Rattle.tlv_writer.proofs.Widths.{code-width, unsigned-is-width, signed-is-width, signed-fits, twos-low}

module _ (tag : Tag) where
  pub length-start : (kind : ℕ) → length (start_octets tag kind) ≡ head_length tag
  unfolding start_octets head_length
  length-start kind = omega (arith, length-bytes (tag_width (form_of tag)) (label_of tag))

  pub head-parts : (kind n : ℕ) → head_for tag kind n ≡ start_octets tag kind ++ bytes_of (number_width kind) n
  unfolding head_for head_octets start_octets
  head-parts kind n = refl

  -- a head with no number
  pub head-bare : (kind : ℕ) → number_width kind ≡ 0 → head_for tag kind 0 ≡ start_octets tag kind
  unfolding bytes_of
  head-bare kind e = head-parts kind 0 ∙ rw e (append-nil (start_octets tag kind))

  pub boolean-start : (b : Bool) → boolean_octets tag b ≡ start_octets tag (boolean_kind b)
  unfolding boolean_octets number_width
  boolean-start true = head-bare 9 refl
  boolean-start false = head-bare 8 refl

  pub null-start : null_octets tag ≡ start_octets tag null_kind
  unfolding null_octets number_width
  null-start = head-bare null_kind refl

  pub open-start : (kind : ℕ) → number_width kind ≡ 0 → open_octets tag kind ≡ start_octets tag kind
  unfolding open_octets
  open-start kind e = head-bare kind e

  -- in two's complement, the octets of the least width are the low octets of all 64 bits
  pub head-signed : (z : ℤ) → mag z < 2 ^ 63 → head_for tag (signed_kind z) (twos 8 z) ≡ signed_octets tag z
  unfolding signed_octets
  head-signed z h =
      let i = signed-is-width z in
      let e : bytes_of (number_width (signed_kind z)) (twos 8 z) ≡ bytes_of (number_width (signed_kind z)) (twos (least_signed_width z) z) = rw (code-width i).0 (twos-low z i (signed-fits z h)) in
      head-parts (signed_kind z) (twos 8 z) ∙ ap (λ (l : List ℕ). start_octets tag (signed_kind z) ++ l) e ∙ sym (head-parts (signed_kind z) (twos (least_signed_width z) z))

  pub length-head : (kind n : ℕ) → length (head_for tag kind n) ≡ head_length tag + number_width kind
  length-head kind n =
      rw (head-parts kind n) (omega (arith, length-append (start_octets tag kind) (bytes_of (number_width kind) n), length-start kind, length-bytes (number_width kind) n))

  pub length-unsigned : (v : ℕ) → length (unsigned_octets tag v) ≡ head_length tag + least_width v
  unfolding unsigned_octets
  length-unsigned v = rw (length-head, (code-width (unsigned-is-width v)).1.0)

  pub length-signed : (z : ℤ) → length (signed_octets tag z) ≡ head_length tag + least_signed_width z
  unfolding signed_octets
  length-signed z = rw (length-head, (code-width (signed-is-width z)).0)

  pub length-boolean : (b : Bool) → length (boolean_octets tag b) ≡ head_length tag
  length-boolean b = rw boolean-start (length-start (boolean_kind b))

  pub length-null : length (null_octets tag) ≡ head_length tag
  length-null = rw null-start (length-start null_kind)

  pub length_float : (n : ℕ) → length (float_octets tag n) ≡ head_length tag + 4
  unfolding float_octets number_width
  length_float n = length-head 10 n

  pub length-text : (bs : List ℕ) → length (text_octets tag bs) ≡ head_length tag + least_width (length bs) + length bs
  unfolding text_octets
  length-text bs = rw (length-append, length-head, (code-width (unsigned-is-width (length bs))).1.1)

  pub length-open : (kind : ℕ) → number_width kind ≡ 0 → length (open_octets tag kind) ≡ head_length tag
  length-open kind e = rw (open-start kind e) (length-start kind)

-- a container's head has no number
pub open-bare : (kind : ℕ) → structure ≤ kind → kind < end_of_container → number_width kind ≡ 0
unfolding number_width
open-bare kind l h = ap number_width e ∙ go (kind - structure) (omega arith)
  where
    e : kind ≡ structure + (kind - structure)
    e = omega arith

    go : (j : ℕ) → j < 3 → number_width (structure + j) ≡ 0
    go zero f = refl
    go (suc zero) f = refl
    go (suc (suc zero)) f = refl
    go (suc (suc (suc j))) f = absurd (omega arith)

-- control octet and tag, as the code stores them
pub start-anonymous : {tag : Tag} (kind : ℕ) → tag ≡ Anonymous → start_octets tag kind ≡ kind ∷ []
unfolding start_octets form_of label_of tag_width bytes_of
start-anonymous kind e = rw e (ap (λ (k : ℕ). k ∷ []) (omega arith))

pub start-context : {tag : Tag} {n : ℕ} (kind : ℕ) → tag ≡ Context n → n < 256 → start_octets tag kind ≡ (32 + kind) ∷ n ∷ []
unfolding start_octets form_of label_of tag_width bytes_of
start-context {tag} {n} kind e h = let q : n % 256 ≡ n = omega arith in rw (e, q) refl

-- a head and its number, stored one after the other
pub numbered : (tag : Tag) (kind v : ℕ) {w at p q : ℕ} {o o₁ o₂ : List ℕ} → w ≡ number_width kind → Stored o at (start_octets tag kind) o₁ p → Stored o₁ p (bytes_of w v) o₂ q → Stored o at (head_for tag kind v) o₂ q
numbered tag kind v e a b = rw (head-parts tag kind v) (then a (rw e at b))
