use mathlib.Core.Path.{refl, sym, ◌∙◌}
use native.Mathlib.Omega.{arith}
use borrow.Author.Tests.{eq-eqb}
use Rattle.script_lines.proofs.Decimals.{digit-below, digit-above, too_much, one_more, no_more, of-digits}
use Rattle.script_lines.proofs.number.decimal.Goals as goal

pub returns-then-w-eq0 : goal.returns-then-w-eq0
returns-then-w-eq0 c = simp (eq-eqb _ _ c.if-w-eq0.true)

pub loop-c-init : goal.loop-c-init
loop-c-init c = refl

pub returns-then-c-lt48 : goal.returns-then-c-lt48
returns-then-c-lt48 c = sym (of-digits c.args.w.now c.if-w-eq0.false ∙ (sym c.loop-c.invariant ∙ digit-below c.args.w.now c.loop-c.n c.loop-c.c-index c.loop-c-test.true c.if-c-lt48.true))

pub returns-then-c-gt57 : goal.returns-then-c-gt57
returns-then-c-gt57 c = sym (of-digits c.args.w.now c.if-w-eq0.false ∙ (sym c.loop-c.invariant ∙ digit-above c.args.w.now c.loop-c.n c.loop-c.c-index c.loop-c-test.true c.if-c-lt48.false c.if-c-gt57.true))

pub returns-then-n-gt-TENTH : goal.returns-then-n-gt-TENTH
returns-then-n-gt-TENTH c = sym (of-digits c.args.w.now c.if-w-eq0.false ∙ (sym c.loop-c.invariant ∙ too_much c.args.w.now c.loop-c.n c.loop-c.c-index c.loop-c-test.true c.if-c-lt48.false c.if-c-gt57.false (omega (arith, c.if-n-gt-TENTH.true))))

pub returns-then-n-d : goal.returns-then-n-d
returns-then-n-d c = sym (of-digits c.args.w.now c.if-w-eq0.false ∙ (sym c.loop-c.invariant ∙ too_much c.args.w.now c.loop-c.n c.loop-c.c-index c.loop-c-test.true c.if-c-lt48.false c.if-c-gt57.false (omega (arith, c.if-n-d.true, c.if-n-gt-TENTH.false))))

pub loop-c-preserved : goal.loop-c-preserved
loop-c-preserved c = sym (one_more c.args.w.now c.loop-c.n c.loop-c.c-index c.loop-c-test.true c.if-c-lt48.false c.if-c-gt57.false (omega (arith, c.if-n-d.false, c.if-n-gt-TENTH.false))) ∙ c.loop-c.invariant

pub returns : goal.returns
returns c = sym (of-digits c.args.w.now c.if-w-eq0.false ∙ (sym c.loop-c.invariant ∙ no_more c.args.w.now c.loop-c.n c.loop-c.c-index (omega arith)))
