use Rattle.tlv_reader.proofs.WalkLaws.{message-broken, message-past}
use mathlib.Core.Path.{sym, ◌∙◌}
use borrow.Author.Tests.{eq-eqb, ne_eqb}
use Rattle.tlv_reader.specs.Walk.{is_message}
use Rattle.tlv_reader.proofs.message.Goals as goal

pub returns-in_default : goal.returns-in_default
unfolding is_message
returns-in_default c = let h = sym c.head.ensures ∙ c.in_default.is in simp h

pub returns-then-e-ne0 : goal.returns-then-e-ne0
unfolding is_message
returns-then-e-ne0 c = let h = sym c.head.ensures ∙ c.in-Some.is in simp (h, ne_eqb _ _ c.if-e-ne0.true)

pub returns-then-e-ne-STRUCTURE : goal.returns-then-e-ne-STRUCTURE
unfolding is_message
returns-then-e-ne-STRUCTURE c = let h = sym c.head.ensures ∙ c.in-Some.is in simp (h, eq-eqb _ _ c.if-e-ne0.false, ne_eqb _ _ c.if-e-ne-STRUCTURE.true)

pub returns-in_default-walk_element : goal.returns-in_default-walk_element
returns-in_default-walk_element c =
    let h = sym c.head.ensures ∙ c.in-Some.is in
    sym (message-broken c.args.s.now h c.if-e-ne0.false c.if-e-ne-STRUCTURE.false (sym c.walk_element.ensures ∙ c.in_default-walk_element.is))

pub returns : goal.returns
returns c =
    let h = sym c.head.ensures ∙ c.in-Some.is in
    sym (message-past c.args.s.now h c.if-e-ne0.false c.if-e-ne-STRUCTURE.false (sym c.walk_element.ensures ∙ c.in-Some-walk_element.is))
