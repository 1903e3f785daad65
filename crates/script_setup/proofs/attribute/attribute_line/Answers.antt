use mathlib.Core.Bool.{Bool}
use Rattle.tlv_reader.specs.Octet.{pick}
use mathlib.Core.Path.{◌≡◌, ap, sym, ◌∙◌}
use mathlib.Core.Bool.{true, false}
use Rattle.script_setup.specs.declared.attribute.AttributeLine.{AttributeLine}
use Rattle.script_setup.specs.Attributes.{attribute_read}
use borrow.Author.Tests.{not-true, not-false}
use Rattle.script_setup.specs.Attributes.{zeros, attribute_setup, attribute_texts}
use Rattle.script_setup.proofs.attribute.attribute_line.Goals as goal

-- the first of two, where the test holds
picked : {A : Type 0} (t : Bool) {x : A} (y : A) → t ≡ true → x ≡ pick t x y
picked t y e = rw e

pub returns-then-not-limits : goal.returns-then-not-limits
unfolding zeros attribute_setup attribute_texts
returns-then-not-limits c =
    let a = c.args in
    let r = c.read_row-row in
    let no : attribute_read a.line.now a.s ≡ false = ap (λ (x : AttributeLine). x.limits.ok) (sym r.ensures.value) ∙ not-true r.result.limits.ok c.if-not-limits.true in
    record { value = sym no; setup_after = rw no; texts_after = rw no }

pub returns : goal.returns
unfolding zeros attribute_setup attribute_texts
returns c =
    let a = c.args in
    let r = c.read_row-row in
    let yes : attribute_read a.line.now a.s ≡ true = ap (λ (x : AttributeLine). x.limits.ok) (sym r.ensures.value) ∙ not-false r.result.limits.ok c.if-not-limits.false in
    let added = c.add_row.ensures in
    record { value = sym yes; setup_after = (rw r.ensures.value at added.setup_after) ∙ picked (attribute_read a.line.now a.s) a.setup.now yes; texts_after = (rw (r.ensures.bytes_after, r.ensures.value) at added.texts_after) ∙ picked (attribute_read a.line.now a.s) a.texts.now yes }
