use mathlib.Core.Path.{sym, ◌∙◌}
use Rattle.server_values.proofs.QuickLaws.{no-nulls}
use Rattle.server_values.proofs.quick.nulls_ok.Goals as goal

pub returns-then-not-some_null : goal.returns-then-not-some_null
returns-then-not-some_null c = let a = c.args in no-nulls a.w.now a.words.now a.nulls.now a.n (sym c.some_null.ensures ∙ c.if-not-some_null.true)

pub returns : goal.returns
returns c = c.all_nulls.ensures
