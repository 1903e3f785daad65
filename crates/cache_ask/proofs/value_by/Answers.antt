use Rattle.cache_ask.proofs.AskLaws.{last-kind}
use Rattle.cache_ask.specs.Ask.{value_by}
use Rattle.cache_entries.specs.Limits.{text_places}
use native.Mathlib.Omega.{arith}
use Prim.Native.Nat.{◌<◌}
use mir.ValLaws.{of_z-to_z}
use mir.Syntax.{w64}
use borrow.Author.Tests.{eq-eqb, ne_eqb}
use mathlib.Core.Path.{refl, ◌∙◌}
use Rattle.cache_ask.proofs.value_by.Goals as goal
use Rattle.cache_ask.proofs.value_by.Goals.{Else-kind-eq-FLOAT}

-- the place of a text is there
place-below : (c : Else-kind-eq-FLOAT) → c.args.word < text_places
place-below c = c.requires.1 (last-kind _ c.args.word c.requires.0 c.if-kind-eq-NULL.false c.if-kind-eq-BOOLEAN.false c.if-kind-eq-UNSIGNED.false c.if-kind-eq-SIGNED.false c.if-kind-eq-FLOAT.false)

pub returns-then-kind-eq-NULL : goal.returns-then-kind-eq-NULL
unfolding value_by
returns-then-kind-eq-NULL c = rw (eq-eqb _ _ c.if-kind-eq-NULL.true) refl

pub returns-then-kind-eq-BOOLEAN : goal.returns-then-kind-eq-BOOLEAN
unfolding value_by
returns-then-kind-eq-BOOLEAN c = rw (ne_eqb _ _ c.if-kind-eq-NULL.false, eq-eqb _ _ c.if-kind-eq-BOOLEAN.true) refl

pub returns-then-kind-eq-UNSIGNED : goal.returns-then-kind-eq-UNSIGNED
unfolding value_by
returns-then-kind-eq-UNSIGNED c = rw (ne_eqb _ _ c.if-kind-eq-NULL.false, ne_eqb _ _ c.if-kind-eq-BOOLEAN.false, eq-eqb _ _ c.if-kind-eq-UNSIGNED.true) refl

pub returns-then-kind-eq-SIGNED : goal.returns-then-kind-eq-SIGNED
unfolding value_by
returns-then-kind-eq-SIGNED c = rw (c.signed_of.ensures, of_z-to_z w64 c.args.word c.ranges.word, ne_eqb _ _ c.if-kind-eq-NULL.false, ne_eqb _ _ c.if-kind-eq-BOOLEAN.false, ne_eqb _ _ c.if-kind-eq-UNSIGNED.false, eq-eqb _ _ c.if-kind-eq-SIGNED.true) refl

pub returns-then-kind-eq-FLOAT : goal.returns-then-kind-eq-FLOAT
unfolding value_by
returns-then-kind-eq-FLOAT c = rw (ne_eqb _ _ c.if-kind-eq-NULL.false, ne_eqb _ _ c.if-kind-eq-BOOLEAN.false, ne_eqb _ _ c.if-kind-eq-UNSIGNED.false, ne_eqb _ _ c.if-kind-eq-SIGNED.false, eq-eqb _ _ c.if-kind-eq-FLOAT.true) refl

pub offset_bounds-lengths-p : goal.offset_bounds-lengths-p
offset_bounds-lengths-p c = omega (arith, place-below (goal.at.offset_bounds-lengths-p c).Else-kind-eq-FLOAT)

pub bounds-lengths-p : goal.bounds-lengths-p
bounds-lengths-p c = omega (arith, place-below (goal.at.bounds-lengths-p c).Else-kind-eq-FLOAT)

pub text_at-requires : goal.text_at-requires
text_at-requires c = place-below (goal.at.text_at-requires c).Else-kind-eq-FLOAT

pub returns : goal.returns
unfolding value_by
returns c = c.text_at.ensures ∙ rw (ne_eqb _ _ c.if-kind-eq-NULL.false, ne_eqb _ _ c.if-kind-eq-BOOLEAN.false, ne_eqb _ _ c.if-kind-eq-UNSIGNED.false, ne_eqb _ _ c.if-kind-eq-SIGNED.false, ne_eqb _ _ c.if-kind-eq-FLOAT.false) refl
