use mathlib.Core.Path.{sym, ◌∙◌}
use native.Mathlib.Omega.{arith}
use borrow.Author.Tests.{eq-eqb, ne_eqb, lt-ltb, le-ltb}
use Rattle.tlv_reader.proofs.Tables.{tag-found}
use Rattle.tlv_reader.proofs.tag_width.Goals as goal

pub returns-then-form-lt2 : goal.returns-then-form-lt2
returns-then-form-lt2 c = record { value = sym (tag-found c.args.form c.requires ∙ simp (lt-ltb _ _ c.if-form-lt2.true)); small = omega arith }

pub returns-then-form-eq6 : goal.returns-then-form-eq6
returns-then-form-eq6 c = record { value = sym (tag-found c.args.form c.requires ∙ simp (le-ltb _ _ c.if-form-lt2.false, eq-eqb _ _ c.if-form-eq6.true)); small = omega arith }

pub returns-then-form-eq7 : goal.returns-then-form-eq7
returns-then-form-eq7 c = record { value = sym (tag-found c.args.form c.requires ∙ simp (le-ltb _ _ c.if-form-lt2.false, ne_eqb _ _ c.if-form-eq6.false, eq-eqb _ _ c.if-form-eq7.true)); small = omega arith }

pub returns-then-form-eq0 : goal.returns-then-form-eq0
returns-then-form-eq0 c = record { value = sym (tag-found c.args.form c.requires ∙ simp (le-ltb _ _ c.if-form-lt2.false, ne_eqb _ _ c.if-form-eq6.false, ne_eqb _ _ c.if-form-eq7.false, eq-eqb _ _ c.if-form-eq0.true)); small = omega arith }

pub returns-else-form-eq0 : goal.returns-else-form-eq0
returns-else-form-eq0 c = record { value = sym (tag-found c.args.form c.requires ∙ simp (le-ltb _ _ c.if-form-lt2.false, ne_eqb _ _ c.if-form-eq6.false, ne_eqb _ _ c.if-form-eq7.false, ne_eqb _ _ c.if-form-eq0.false)); small = omega arith }
