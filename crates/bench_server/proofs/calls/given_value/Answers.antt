use mathlib.Core.Path.{refl}
use borrow.Author.Tests.{eq-eqb, ne_eqb}
use mir.Syntax.{w64}
use mir.ValLaws.{of_z-to_z}
use Rattle.bench_server.specs.Calls.{given_value}
use Rattle.bench_server.proofs.calls.given_value.Goals as goal

pub returns-then-code-eq1 : goal.returns-then-code-eq1
unfolding given_value
returns-then-code-eq1 c = rw (eq-eqb c.args.code 1 c.if-code-eq1.true) refl

pub returns-then-code-eq2 : goal.returns-then-code-eq2
unfolding given_value
returns-then-code-eq2 c = rw (ne_eqb c.args.code 1 c.if-code-eq1.false, eq-eqb c.args.code 2 c.if-code-eq2.true) refl

pub returns-then-code-eq3 : goal.returns-then-code-eq3
unfolding given_value
returns-then-code-eq3 c = rw (c.signed_of.ensures, of_z-to_z w64 c.args.word c.ranges.word, ne_eqb c.args.code 1 c.if-code-eq1.false, ne_eqb c.args.code 2 c.if-code-eq2.false, eq-eqb c.args.code 3 c.if-code-eq3.true) refl

pub returns-then-code-eq4 : goal.returns-then-code-eq4
unfolding given_value
returns-then-code-eq4 c = rw (ne_eqb c.args.code 1 c.if-code-eq1.false, ne_eqb c.args.code 2 c.if-code-eq2.false, ne_eqb c.args.code 3 c.if-code-eq3.false, eq-eqb c.args.code 4 c.if-code-eq4.true) refl

pub returns-then-code-eq5 : goal.returns-then-code-eq5
unfolding given_value
returns-then-code-eq5 c = rw (ne_eqb c.args.code 1 c.if-code-eq1.false, ne_eqb c.args.code 2 c.if-code-eq2.false, ne_eqb c.args.code 3 c.if-code-eq3.false, ne_eqb c.args.code 4 c.if-code-eq4.false, eq-eqb c.args.code 5 c.if-code-eq5.true) refl

pub returns : goal.returns
unfolding given_value
returns c = rw (ne_eqb c.args.code 1 c.if-code-eq1.false, ne_eqb c.args.code 2 c.if-code-eq2.false, ne_eqb c.args.code 3 c.if-code-eq3.false, ne_eqb c.args.code 4 c.if-code-eq4.false, ne_eqb c.args.code 5 c.if-code-eq5.false) refl
