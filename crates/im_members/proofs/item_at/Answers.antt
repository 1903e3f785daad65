use mathlib.Core.Path.{sym, ap, ◌∙◌}
use borrow.Author.Tests.{eq-eqb, ne_eqb}
use Rattle.im_members.specs.Item.{item_of, item_at}
use Rattle.im_members.proofs.item_at.Goals as goal

pub returns-in_default : goal.returns-in_default
unfolding item_at
returns-in_default c = sym (ap (item_of c.args.kind) (sym c.head.ensures ∙ c.in_default.is))

pub returns-then-e-eq-END : goal.returns-then-e-eq-END
unfolding item_at
returns-then-e-eq-END c = sym (ap (item_of c.args.kind) (sym c.head.ensures ∙ c.in-Some.is) ∙ simp (eq-eqb _ _ c.if-e-eq-END.true))

pub returns-then-not-allowed : goal.returns-then-not-allowed
unfolding item_at
returns-then-not-allowed c = sym (ap (item_of c.args.kind) (sym c.head.ensures ∙ c.in-Some.is) ∙ simp (ne_eqb _ _ c.if-e-eq-END.false, sym c.allowed.ensures ∙ c.if-not-allowed.true))

pub returns : goal.returns
unfolding item_at
returns c = sym (ap (item_of c.args.kind) (sym c.head.ensures ∙ c.in-Some.is) ∙ simp (ne_eqb _ _ c.if-e-eq-END.false, sym c.allowed.ensures ∙ c.if-not-allowed.false))
