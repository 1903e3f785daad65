use Rattle.cache_state.specs.Begin.{sendable}
use mathlib.Core.Bool.{not}
use mathlib.Core.Path.{sym, ap, ◌∙◌}
use Rattle.cache_state.proofs.begin.can_write.Goals as goal

pub returns-then-not-usable : goal.returns-then-not-usable
unfolding sendable
returns-then-not-usable c = rw (sym c.usable.ensures ∙ c.if-not-usable.true)

pub returns : goal.returns
unfolding sendable
returns c = rw (sym c.usable.ensures ∙ c.if-not-usable.false) (ap not c.is_long.ensures)
