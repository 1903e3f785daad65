use mathlib.Core.Path.{sym, ◌∙◌}
use borrow.Author.Tests.{eq-eqb, ne_eqb}
use Rattle.im_requests.specs.Message.{open_pass}
use Rattle.im_requests.proofs.begin_message.Goals as goal

pub returns-in_default : goal.returns-in_default
unfolding open_pass
returns-in_default c = c.refused.ensures ∙ sym (simp (sym c.head.ensures ∙ c.in_default.is))

pub returns-then-e-ne0 : goal.returns-then-e-ne0
unfolding open_pass
returns-then-e-ne0 c = c.refused-then-e-ne0.ensures ∙ sym (simp (sym c.head.ensures ∙ c.in-Some.is, ne_eqb _ _ c.if-e-ne0.true))

pub returns : goal.returns
unfolding open_pass
returns c = c.begin.ensures ∙ sym (simp (sym c.head.ensures ∙ c.in-Some.is, eq-eqb _ _ c.if-e-ne0.false))
