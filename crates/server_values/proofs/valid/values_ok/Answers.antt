use mathlib.Core.Path.{sym, ◌∙◌}
use Rattle.server_values.proofs.QuickLaws.{quick-right}
use Rattle.server_values.proofs.valid.values_ok.Goals as goal

pub returns-then-is_quick : goal.returns-then-is_quick
returns-then-is_quick c =
    let a = c.args in
    quick-right a.w.now a.defaults.now a.edits.now a.words.now a.nulls.now a.texts.now (sym c.is_quick.ensures ∙ c.if-is_quick.true)

pub returns : goal.returns
returns c = c.all_right.ensures
