use mathlib.Core.Path.{sym, ◌∙◌}
use mathlib.Core.Bool.{or-false}
use Rattle.script_cache.proofs.is_cache.Goals as goal

pub returns-then-begins : goal.returns-then-begins
returns-then-begins c = rw (sym c.begins.ensures ∙ c.if-begins.true)

pub returns-then-same_bytes : goal.returns-then-same_bytes
returns-then-same_bytes c =
    rw (sym c.begins.ensures ∙ c.if-begins.false, sym c.same_bytes.ensures ∙ c.if-same_bytes.true)

pub returns : goal.returns
returns c =
    rw (sym c.begins.ensures ∙ c.if-begins.false, sym c.same_bytes.ensures ∙ c.if-same_bytes.false, or-false) c.same_bytes-2.ensures
