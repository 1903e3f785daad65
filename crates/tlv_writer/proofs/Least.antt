-- No legal spelling of an integer or a text is shorter than the one we write.
use mathlib.Core.Path.{◌≡◌, refl, subst, ◌∙◌}
use mathlib.Core.Bool.{Bool, true, false}
use mathlib.Core.List.{List}
use Prim.Native.Nat.{ℕ, zero, suc, ◌+◌, ◌-◌, ◌^◌, ◌<◌, ◌≤◌}
use native.Mathlib.Omega.{arith}
use borrow.Author.Tests.{ltb-true, ltb-false, lt-ltb, le-ltb}
use lib.Dec.{ltb}
use lib.IntN.{ℤ}
use lib.ListN.{length, length-append}
use Rattle.base_octets.specs.Number.{bytes_of}
use Rattle.base_octets.proofs.NumberLaws.{length-bytes}
use Rattle.tlv_reader.specs.Octet.{pick, tag_width, number_width, is_string, structure, head_octets}
use Rattle.tlv_reader.specs.Tree.{Primitive, Spells, complement, scalar_of, primitive_of, tag_of}
use Rattle.tlv_reader.specs.Tree.Tree.{primitive}
use Rattle.tlv_reader.specs.Tree.Primitive.{unsigned, signed, text}
use Rattle.tlv_reader.specs.Value.{datum_p}
use Rattle.tlv_writer.specs.declared.Tag.{Tag}
use Rattle.tlv_writer.specs.declared.Tag.TheVariants.{Anonymous, Context}
use Rattle.tlv_writer.specs.Element.{form_of, head_length, unsigned_octets, signed_octets, text_octets, datum_octets}
use Rattle.tlv_writer.specs.Meaning.{tree_tag}
use Rattle.tlv_writer.proofs.Widths.{IsWidth, kind-width, unsigned-below, signed_below, complement-width}
use Rattle.tlv_writer.proofs.Octets.{length-unsigned, length-signed, length-boolean, length-null, length_float, length-text}
use Rattle.tlv_writer.proofs.Spelling.{signed-value, unsigned-value, text-value}

-- of the tag forms the anonymous one alone has no octet
tagged-form : (form : ℕ) → form < 8 → 0 < form → 1 ≤ tag_width form
unfolding tag_width
tagged-form zero f h = absurd (omega arith)
tagged-form (suc zero) f h = omega arith
tagged-form (suc (suc zero)) f h = omega arith
tagged-form (suc (suc (suc zero))) f h = omega arith
tagged-form (suc (suc (suc (suc zero)))) f h = omega arith
tagged-form (suc (suc (suc (suc (suc zero))))) f h = omega arith
tagged-form (suc (suc (suc (suc (suc (suc zero)))))) f h = omega arith
tagged-form (suc (suc (suc (suc (suc (suc (suc zero))))))) f h = omega arith
tagged-form (suc (suc (suc (suc (suc (suc (suc (suc form)))))))) f h = absurd (omega arith)

-- no form that holds the tag is narrower than ours
tag-least : (tag : Tag) (form label : ℕ) → form < 8 → tree_tag tag ≡ tag_of form label → tag_width (form_of tag) ≤ tag_width form
unfolding tree_tag tag_of form_of tag_width
tag-least Anonymous form label f e = omega arith
tag-least (Context n) zero label f e = let z : ◌≡◌ {A = ℕ} 0 1 = cc in absurd (omega arith)
tag-least (Context n) (suc form) label f e = tagged-form (suc form) f (omega arith)

module _ (tag : Tag) where
  Short : ℕ → ℕ → List ℕ → Type 0
  Short kind n body = length (datum_octets tag (datum_p (primitive_of kind n body))) ≤ head_length tag + number_width kind + length body

  signed-case : (kind n : ℕ) (body : List ℕ) → kind < 4 → n < 256 ^ number_width kind → Short kind n body
  unfolding Short datum_octets
  signed-case kind n body k f =
      let i = (kind-width kind k).0 in
      let z = complement (256 ^ number_width kind - 1) n in
      rw (signed-value kind n body k) (omega (arith, length-signed tag z, signed_below z i (complement-width n i f)))

  unsigned-case : (kind n : ℕ) (body : List ℕ) → 4 ≤ kind → kind < 8 → n < 256 ^ number_width kind → Short kind n body
  unfolding Short datum_octets
  unsigned-case kind n body l k f =
      let e : 4 + (kind - 4) ≡ kind = omega arith in
      let i = subst (λ (x : ℕ). IsWidth (number_width x)) e (kind-width (kind - 4) (omega arith)).1.0 in
      rw (unsigned-value kind n body l k) (omega (arith, length-unsigned tag n, unsigned-below n i f))

  text-case : (kind n : ℕ) (body : List ℕ) → 12 ≤ kind → kind < 16 → n < 256 ^ number_width kind → length body ≡ pick (is_string kind) n 0 → Short kind n body
  unfolding Short datum_octets
  text-case kind n body l k f b =
      let e : 12 + (kind - 12) ≡ kind = omega arith in
      let i = subst (λ (x : ℕ). IsWidth (number_width x)) e (kind-width (kind - 12) (omega arith)).1.1 in
      let len : length body ≡ n = b ∙ rw (le-ltb kind 12 l, lt-ltb kind 20 (omega arith)) refl in
      rw (text-value kind n body l k) (omega (arith, length-text tag body, unsigned-below (length body) i (rw len f)))

  -- booleans and floats; octet strings and null
  plain-case : (j n : ℕ) (body : List ℕ) → j < 4 → Short (8 + j) n body
  unfolding Short datum_octets primitive_of scalar_of number_width
  plain-case zero n body h = omega (arith, length-boolean tag false)
  plain-case (suc zero) n body h = omega (arith, length-boolean tag true)
  plain-case (suc (suc zero)) n body h = omega (arith, length_float tag n)
  plain-case (suc (suc (suc zero))) n body h = omega arith
  plain-case (suc (suc (suc (suc j)))) n body h = absurd (omega arith)

  last-case : (j n : ℕ) (body : List ℕ) → j < 5 → Short (16 + j) n body
  unfolding Short datum_octets primitive_of scalar_of number_width
  last-case zero n body h = omega arith
  last-case (suc zero) n body h = omega arith
  last-case (suc (suc zero)) n body h = omega arith
  last-case (suc (suc (suc zero))) n body h = omega arith
  last-case (suc (suc (suc (suc zero)))) n body h = omega (arith, length-null tag)
  last-case (suc (suc (suc (suc (suc j))))) n body h = absurd (omega arith)

  by_kind : (kind n : ℕ) (body : List ℕ) → kind < structure → n < 256 ^ number_width kind → length body ≡ pick (is_string kind) n 0 → Short kind n body
  by_kind kind n body k f b = go (ltb kind 4) (ltb kind 8) (ltb kind 12) (ltb kind 16) refl refl refl refl
    where
      go : (p q r s : Bool) → ltb kind 4 ≡ p → ltb kind 8 ≡ q → ltb kind 12 ≡ r → ltb kind 16 ≡ s → Short kind n body
      go true q r s e₄ e₈ e₁₂ e₁₆ = signed-case kind n body (ltb-true kind 4 e₄) f
      go false true r s e₄ e₈ e₁₂ e₁₆ = unsigned-case kind n body (ltb-false kind 4 e₄) (ltb-true kind 8 e₈) f
      go false false true s e₄ e₈ e₁₂ e₁₆ =
          let e : 8 + (kind - 8) ≡ kind = omega (arith, ltb-false kind 8 e₈) in
          subst (λ (x : ℕ). Short x n body) e (plain-case (kind - 8) n body (omega (arith, ltb-true kind 12 e₁₂)))
      go false false false true e₄ e₈ e₁₂ e₁₆ = text-case kind n body (ltb-false kind 12 e₁₂) (ltb-true kind 16 e₁₆) f b
      go false false false false e₄ e₈ e₁₂ e₁₆ =
          let e : 16 + (kind - 16) ≡ kind = omega (arith, ltb-false kind 16 e₁₆) in
          subst (λ (x : ℕ). Short x n body) e (last-case (kind - 16) n body (omega arith))

  -- NOTHING LEGAL IS SHORTER, of any value that we write
  pub least : (x : Primitive) (bs : List ℕ) → Spells (primitive (tree_tag tag) x) bs → length (datum_octets tag (datum_p x)) ≤ length bs
  unfolding Spells Short head_octets head_length
  least x bs s =
      let t = tag-least tag s.form s.label s.form-fits s.is-tag in
      let v = by_kind s.kind s.number s.body s.kind_fits s.number_fits s.body-fits in
      let h = head_octets s.form s.kind s.label s.number in
      let tl = bytes_of (tag_width s.form) s.label in
      let nl = bytes_of (number_width s.kind) s.number in
      rw (s.is-value, s.is-bytes) (omega (arith, length-append h s.body, length-append tl nl, length-bytes (tag_width s.form) s.label, length-bytes (number_width s.kind) s.number))

  pub unsigned-least : (v : ℕ) (bs : List ℕ) → Spells (primitive (tree_tag tag) (unsigned v)) bs → length (unsigned_octets tag v) ≤ length bs
  unfolding datum_octets
  unsigned-least v bs s = least (unsigned v) bs s

  pub signed-least : (z : ℤ) (bs : List ℕ) → Spells (primitive (tree_tag tag) (signed z)) bs → length (signed_octets tag z) ≤ length bs
  unfolding datum_octets
  signed-least z bs s = least (signed z) bs s

  pub text-least : (t bs : List ℕ) → Spells (primitive (tree_tag tag) (text t)) bs → length (text_octets tag t) ≤ length bs
  unfolding datum_octets
  text-least t bs s = least (text t) bs s
