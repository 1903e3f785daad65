use mathlib.Core.Path.{sym, ◌∙◌}
use native.Mathlib.Omega.{arith}
use borrow.Author.Tests.{eq-eqb, ne_eqb, lt-ltb, le-ltb}
use Rattle.tlv_reader.proofs.Tables.{number-found}
use Rattle.tlv_reader.proofs.number_width.Goals as goal

pub returns-then-kind-gt19 : goal.returns-then-kind-gt19
returns-then-kind-gt19 c = record { value = sym (number-found c.args.kind c.requires ∙ simp (lt-ltb _ _ c.if-kind-gt19.true)); small = omega arith }

pub returns-then-kind-eq4 : goal.returns-then-kind-eq4
returns-then-kind-eq4 c = record { value = sym (number-found c.args.kind c.requires ∙ simp (le-ltb _ _ c.if-kind-gt19.false, eq-eqb _ _ c.if-kind-eq4.true)); small = omega arith }

pub returns-then-low-eq3 : goal.returns-then-low-eq3
returns-then-low-eq3 c = record { value = sym (number-found c.args.kind c.requires ∙ simp (le-ltb _ _ c.if-kind-gt19.false, ne_eqb _ _ c.if-kind-eq4.false, eq-eqb _ _ c.if-low-eq3.true)); small = omega arith }

pub returns-else-low-eq3 : goal.returns-else-low-eq3
returns-else-low-eq3 c = record { value = sym (number-found c.args.kind c.requires ∙ simp (le-ltb _ _ c.if-kind-gt19.false, ne_eqb _ _ c.if-kind-eq4.false, ne_eqb _ _ c.if-low-eq3.false)); small = omega arith }
