use borrow.Author.Tests.{eq-eqb, ne_eqb, lt-ltb, le-ltb}
use Rattle.im_members.specs.Fields.{slot_of, place_of}
use Rattle.im_members.proofs.slot.Goals as goal

pub returns-then-form-ne1 : goal.returns-then-form-ne1
unfolding slot_of place_of
returns-then-form-ne1 c = simp (ne_eqb _ _ c.if-form-ne1.true)

pub returns-then-listed-i : goal.returns-then-listed-i
unfolding slot_of place_of
returns-then-listed-i c = simp (eq-eqb _ _ c.if-form-ne1.false, lt-ltb _ _ c.if-tag-lt9.true, c.if-listed-i.true)

pub returns-then-tag-lt9 : goal.returns-then-tag-lt9
unfolding slot_of place_of
returns-then-tag-lt9 c = simp (eq-eqb _ _ c.if-form-ne1.false, lt-ltb _ _ c.if-tag-lt9.true, c.if-listed-i.false)

pub returns-then-listed-offset9 : goal.returns-then-listed-offset9
unfolding slot_of place_of
returns-then-listed-offset9 c = simp (eq-eqb _ _ c.if-form-ne1.false, le-ltb _ _ c.if-tag-lt9.false, eq-eqb _ _ c.if-tag-eq255.true, c.if-listed-offset9.true)

pub returns-else-listed-offset9 : goal.returns-else-listed-offset9
unfolding slot_of place_of
returns-else-listed-offset9 c = simp (eq-eqb _ _ c.if-form-ne1.false, le-ltb _ _ c.if-tag-lt9.false, eq-eqb _ _ c.if-tag-eq255.true, c.if-listed-offset9.false)

pub returns-else-tag-eq255 : goal.returns-else-tag-eq255
unfolding slot_of place_of
returns-else-tag-eq255 c = simp (eq-eqb _ _ c.if-form-ne1.false, le-ltb _ _ c.if-tag-lt9.false, ne_eqb _ _ c.if-tag-eq255.false)
