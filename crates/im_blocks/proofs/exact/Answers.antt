use borrow.Author.Tests.{eq-eqb, ne_eqb}
use mathlib.Core.Path.{sym, ◌∙◌}
use Rattle.im_blocks.specs.Path.{exact_p}
use Rattle.im_blocks.proofs.exact.Goals as goal

pub returns-then-is_banned : goal.returns-then-is_banned
unfolding exact_p
returns-then-is_banned c = simp (sym c.is_banned.ensures ∙ c.if-is_banned.true)

pub returns-then-p-eq-ABSENT : goal.returns-then-p-eq-ABSENT
unfolding exact_p
returns-then-p-eq-ABSENT c = simp (sym c.is_banned.ensures ∙ c.if-is_banned.false, eq-eqb _ _ c.if-p-eq-ABSENT.true)

pub returns-then-p-eq-ABSENT-2 : goal.returns-then-p-eq-ABSENT-2
unfolding exact_p
returns-then-p-eq-ABSENT-2 c = simp (sym c.is_banned.ensures ∙ c.if-is_banned.false, ne_eqb _ _ c.if-p-eq-ABSENT.false, eq-eqb _ _ c.if-p-eq-ABSENT-2.true)

pub returns : goal.returns
unfolding exact_p
returns c = rw (sym c.is_banned.ensures ∙ c.if-is_banned.false, ne_eqb _ _ c.if-p-eq-ABSENT.false, ne_eqb _ _ c.if-p-eq-ABSENT-2.false)
