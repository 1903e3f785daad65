-- The value at a place of a message: what the tree there means, and its text in the message.
use Rattle.std.specs.Prelude.{Some, None, Option}
use mathlib.Core.Path.{◌≡◌, refl, ap, ◌∙◌}
use mathlib.Core.Bool.{true, false}
use mathlib.Core.List.{List}
use Prim.Native.Nat.{ℕ, ◌+◌, ◌-◌, ◌/◌, ◌%◌, ◌≤◌}
use native.Mathlib.Omega.{arith}
use borrow.Author.Tests.{ltb-true, ltb-false, lt-ltb}
use lib.ListN.{length, get_or}
use lib.Dec.{ltb, eqb}
use Rattle.base_octets.specs.Number.{number_at, Bytes}
use Rattle.tlv_reader.specs.declared.Element.{Element}
use Rattle.tlv_reader.specs.declared.Value.{Value}
use Rattle.tlv_reader.specs.declared.Value.TheVariants as value
use Rattle.tlv_reader.specs.Octet.{pick, tag_width, number_width, is_string}
use Rattle.tlv_reader.specs.Tree.{Tag, Primitive, Tree}
use Rattle.tlv_reader.specs.Tree.Tree.{primitive}
use Rattle.tlv_reader.specs.Head.{head_at, closed_at, formed_at}
use Rattle.tlv_reader.specs.Walk.{Got, headed}
use Rattle.tlv_reader.specs.Walk.Got.{got, bad}
use Rattle.tlv_reader.specs.Value.{value_of, value_in, datum_in, datum_p, datum_t}
use Rattle.tlv_reader.specs.Decode.{tree_of, tree_at}
use Rattle.tlv_reader.proofs.Picks.{pick-elim}
use Rattle.tlv_reader.proofs.ValueLaws.{value-means}
use Rattle.tlv_writer.specs.Element.{InPage}
use Rattle.im_members.specs.Fields.{or_none}
use Rattle.im_blocks.proofs.BlockLaws.{never}

module _ (d : ℕ) (s : List ℕ) (bytes : Bytes s) (at : ℕ) {tag : Tag} {x : Primitive} where
  -- the value at the place of a tree is what the tree means
  pub place-means : or_none (tree_at d s at) ≡ primitive tag x → datum_in s (value_in s at) ≡ datum_p x
  unfolding value_in tree_at
  place-means e = by-head (head_at s at) refl e
    where
      by-tree : {y : Element} → head_at s at ≡ Some y → (g : Got Tree) → tree_of d s y ≡ g → or_none g ≡ primitive tag x → datum_in s (value_of y) ≡ datum_p x
      by-tree h bad w e = never (cc)
      by-tree h (got t n) w e = value-means d s bytes at h w ∙ ap datum_t e

      by-head : (h : (Option Element)) → head_at s at ≡ h → or_none (headed bad (tree_of d s) h) ≡ primitive tag x → datum_in s (headed value.Other value_of h) ≡ datum_p x
      by-head None h e = never (cc)
      by-head (Some y) h e = by-tree h (tree_of d s y) refl e

-- a text lies in the message
element-inside : (s : List ℕ) (e : Element) → (is_string e.kind ≡ true → e.body + e.number ≤ length s) → InPage s (value_of e)
unfolding value_of
element-inside s e h =
    let k = e.kind in
    let P : Value → Type 0 = InPage s in
    pick-elim P (ltb k 4) _ _ (λ _. tt)
    (λ _. pick-elim P (ltb k 8) _ _ (λ _. tt)
    (λ _. pick-elim P (eqb k 8) _ _ (λ _. tt)
    (λ _. pick-elim P (eqb k 9) _ _ (λ _. tt)
    (λ _. pick-elim P (eqb k 10) _ _ (λ _. tt)
    (λ _. pick-elim P (ltb k 12) _ _ (λ _. tt)
    (λ q. pick-elim P (ltb k 16) _ _ (λ l. h (rw q (lt-ltb k 20 (omega (arith, ltb-true k 16 l)))))
    (λ _. pick-elim P (eqb k 20) _ _ (λ _. tt) (λ _. tt))))))))

module _ (s : List ℕ) where
  abbrev Inside : Option Element → Type 0
  Inside h = InPage s (headed value.Other value_of h)

  closed-inside : (form kind tag number body : ℕ) → body ≤ length s → Inside (closed_at (length s) form kind tag number body)
  unfolding closed_at
  closed-inside form kind tag number body b =
      pick-elim Inside (is_string kind) _ _
      (λ _. pick-elim Inside (ltb (length s - body) number) _ _ (λ _. tt) (λ e. element-inside s _ (λ _. omega (arith, ltb-false (length s - body) number e))))
      (λ q. element-inside s _ (λ t. never (cc)))

  pub value-inside : (at : ℕ) → InPage s (value_in s at)
  unfolding value_in head_at
  value-inside at =
      let form = get_or s at 0 / 32 in
      let kind = get_or s at 0 % 32 in
      let tw = tag_width form in
      let nw = number_width kind in
      pick-elim Inside (ltb at (length s)) (formed_at s at form kind) None
      (λ e1. pick-elim Inside (ltb 24 kind) None _ (λ _. tt)
      (λ _. pick-elim Inside (pick (eqb kind 24) (ltb 0 form) false) None _ (λ _. tt)
      (λ _. pick-elim Inside (ltb (length s - (at + 1)) (tw + nw)) None _ (λ _. tt)
      (λ e2. closed-inside form kind (number_at tw s (at + 1)) (number_at nw s (at + 1 + tw)) (at + 1 + tw + nw)
      (omega (arith, ltb-true at (length s) e1, ltb-false (length s - (at + 1)) (tw + nw) e2))))))
      (λ _. tt)
