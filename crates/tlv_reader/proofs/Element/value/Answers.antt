use mathlib.Core.Path.{ap, ◌∙◌}
use mir.Syntax.{w64}
use mir.ValLaws.{to_z-of_z}
use borrow.Author.Tests.{lt-ltb, le-ltb, eq-eqb, ne_eqb}
use Rattle.tlv_reader.specs.declared.Value.TheVariants.{Signed}
use Rattle.tlv_reader.specs.Value.{value_of}
use Rattle.tlv_reader.proofs.Element.value.Goals as goal

pub returns-then-kind-lt4 : goal.returns-then-kind-lt4
unfolding value_of
returns-then-kind-lt4 c = ap Signed (to_z-of_z w64 c.signed_number.result (record { sfits = c.signed_number.type_inv }) ∙ c.signed_number.ensures) ∙ simp (lt-ltb _ _ c.if-kind-lt4.true)

pub returns-then-kind-lt8 : goal.returns-then-kind-lt8
unfolding value_of
returns-then-kind-lt8 c = simp (le-ltb _ _ c.if-kind-lt4.false, lt-ltb _ _ c.if-kind-lt8.true)

pub returns-then-kind-eq8 : goal.returns-then-kind-eq8
unfolding value_of
returns-then-kind-eq8 c = simp (le-ltb _ _ c.if-kind-lt4.false, le-ltb _ _ c.if-kind-lt8.false, eq-eqb _ _ c.if-kind-eq8.true)

pub returns-then-kind-eq9 : goal.returns-then-kind-eq9
unfolding value_of
returns-then-kind-eq9 c = simp (le-ltb _ _ c.if-kind-lt4.false, le-ltb _ _ c.if-kind-lt8.false, ne_eqb _ _ c.if-kind-eq8.false, eq-eqb _ _ c.if-kind-eq9.true)

pub returns-then-kind-eq10 : goal.returns-then-kind-eq10
unfolding value_of
returns-then-kind-eq10 c = simp (le-ltb _ _ c.if-kind-lt4.false, le-ltb _ _ c.if-kind-lt8.false, ne_eqb _ _ c.if-kind-eq8.false, ne_eqb _ _ c.if-kind-eq9.false, eq-eqb _ _ c.if-kind-eq10.true)

pub returns-then-kind-lt12 : goal.returns-then-kind-lt12
unfolding value_of
returns-then-kind-lt12 c = simp (le-ltb _ _ c.if-kind-lt4.false, le-ltb _ _ c.if-kind-lt8.false, ne_eqb _ _ c.if-kind-eq8.false, ne_eqb _ _ c.if-kind-eq9.false, ne_eqb _ _ c.if-kind-eq10.false, lt-ltb _ _ c.if-kind-lt12.true)

pub returns-then-kind-lt16 : goal.returns-then-kind-lt16
unfolding value_of
returns-then-kind-lt16 c = simp (le-ltb _ _ c.if-kind-lt4.false, le-ltb _ _ c.if-kind-lt8.false, ne_eqb _ _ c.if-kind-eq8.false, ne_eqb _ _ c.if-kind-eq9.false, ne_eqb _ _ c.if-kind-eq10.false, le-ltb _ _ c.if-kind-lt12.false, lt-ltb _ _ c.if-kind-lt16.true)

pub returns-then-kind-eq20 : goal.returns-then-kind-eq20
unfolding value_of
returns-then-kind-eq20 c = simp (le-ltb _ _ c.if-kind-lt4.false, le-ltb _ _ c.if-kind-lt8.false, ne_eqb _ _ c.if-kind-eq8.false, ne_eqb _ _ c.if-kind-eq9.false, ne_eqb _ _ c.if-kind-eq10.false, le-ltb _ _ c.if-kind-lt12.false, le-ltb _ _ c.if-kind-lt16.false, eq-eqb _ _ c.if-kind-eq20.true)

pub returns : goal.returns
unfolding value_of
returns c = simp (le-ltb _ _ c.if-kind-lt4.false, le-ltb _ _ c.if-kind-lt8.false, ne_eqb _ _ c.if-kind-eq8.false, ne_eqb _ _ c.if-kind-eq9.false, ne_eqb _ _ c.if-kind-eq10.false, le-ltb _ _ c.if-kind-lt12.false, le-ltb _ _ c.if-kind-lt16.false, ne_eqb _ _ c.if-kind-eq20.false)
