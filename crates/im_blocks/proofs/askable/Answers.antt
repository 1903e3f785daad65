use mathlib.Core.Path.{sym, ◌∙◌}
use Rattle.im_blocks.specs.Path.{askable_p}
use Rattle.im_blocks.proofs.askable.Goals as goal

pub returns-then-is_banned : goal.returns-then-is_banned
unfolding askable_p
returns-then-is_banned c = simp (sym c.is_banned.ensures ∙ c.if-is_banned.true)

pub returns : goal.returns
unfolding askable_p
returns c = simp (sym c.is_banned.ensures ∙ c.if-is_banned.false, ← c.is_loose.ensures)
