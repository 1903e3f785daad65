use mathlib.Core.Path.{sym, ◌∙◌}
use Rattle.script_cache.proofs.handed.Goals as goal

pub returns-then-same_bytes : goal.returns-then-same_bytes
returns-then-same_bytes c = rw (sym c.same_bytes.ensures ∙ c.if-same_bytes.true) c.newest.ensures

pub returns : goal.returns
returns c = rw (sym c.same_bytes.ensures ∙ c.if-same_bytes.false) c.spelled.ensures
