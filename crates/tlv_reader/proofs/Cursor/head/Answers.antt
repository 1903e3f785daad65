use mathlib.Core.Path.{◌≡◌, sym, ◌∙◌}
use mathlib.Core.Bool.{false}
use mathlib.Core.List.{List}
use Prim.Native.Nat.{ℕ, ◌/◌, ◌%◌}
use native.Mathlib.Omega.{arith}
use lib.ListN.{get_or}
use lib.Dec.{eqb, ltb}
use borrow.Author.Tests.{le-ltb, lt-ltb, eq-eqb, ne_eqb}
use Rattle.tlv_reader.specs.Octet.{pick, tag_width, number_width}
use Rattle.tlv_reader.specs.Head.{head_at, sized_at}
use borrow.Author.Rules.{rules}
use Rattle.tlv_reader.proofs.Cursor.head.Goals as goal
use Rattle.tlv_reader.proofs.Cursor.head.Goals.{Joined-kind-eq-END, then-kind-eq-END+else-form-gt0, else-kind-eq-END}

-- past the first three tests: no reserved type, and no end of container that is tagged
untagged : (j : Joined-kind-eq-END) → (let c : ℕ = get_or j.args.s.now j.args.self.at 0 in pick (eqb (c % 32) 24) (ltb 0 (c / 32)) false ≡ false)
untagged j = elim j.if-kind-eq-END.branch [ then-kind-eq-END+else-form-gt0 w ↦ simp (eq-eqb _ _ w.if-kind-eq-END.true, le-ltb _ _ w.if-form-gt0.false) | else-kind-eq-END w ↦ simp (ne_eqb _ _ w.if-kind-eq-END.false) ]

shape : (j : Joined-kind-eq-END) (tw nw : ℕ) → (let a = j.args in let s : List ℕ = a.s.now in let c : ℕ = get_or s a.self.at 0 in tw ≡ tag_width (c / 32) → nw ≡ number_width (c % 32) → head_at s a.self.at ≡ sized_at s a.self.at (c / 32) (c % 32) tw nw)
unfolding head_at
shape j tw nw et en = simp (lt-ltb _ _ j.if-s-at.false, le-ltb _ _ j.if-kind-gt-END.false, untagged j, et, en)

pub returns-then-s-at : goal.returns-then-s-at
unfolding head_at
returns-then-s-at c = simp (le-ltb _ _ c.if-s-at.true)

pub returns-then-kind-gt-END : goal.returns-then-kind-gt-END
unfolding head_at
returns-then-kind-gt-END c = simp (lt-ltb _ _ c.if-s-at.false, lt-ltb _ _ c.if-kind-gt-END.true)

pub returns-then-form-gt0 : goal.returns-then-form-gt0
unfolding head_at
returns-then-form-gt0 c = simp (lt-ltb _ _ c.if-s-at.false, le-ltb _ _ c.if-kind-gt-END.false, eq-eqb _ _ c.if-kind-eq-END.true, lt-ltb _ _ c.if-form-gt0.true)

pub tag_width-tw-requires : goal.tag_width-tw-requires
tag_width-tw-requires c = omega (arith, c.type_inv.s c.args.self.at)

pub returns-then-s-b : goal.returns-then-s-b
returns-then-s-b c = sym (shape (goal.at.returns-then-s-b c).Joined-kind-eq-END _ _ c.tag_width-tw.ensures.value c.number_width-nw.ensures.value ∙ simp (lt-ltb _ _ c.if-s-b.true))

pub tag_at-tag-requires : goal.tag_at-tag-requires
tag_at-tag-requires c = (c.tag_width-tw.ensures.value, (c.tag_width-tw.ensures.small, search rules))

pub returns : goal.returns
returns c =
    c.closed.ensures
    ∙ sym (shape (goal.at.returns c).Joined-kind-eq-END _ _ c.tag_width-tw.ensures.value c.number_width-nw.ensures.value
    ∙ simp (le-ltb _ _ c.if-s-b.false, ← c.tag_at-tag.ensures, ← c.number-number.ensures))
