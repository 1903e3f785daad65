use mathlib.Core.Path.{sym, ◌∙◌}
use Rattle.tlv_reader.specs.Value.{datum_in}
use Rattle.server_values.specs.Values.{values_of}
use Rattle.server_values.specs.Change.{changes}
use Rattle.server_values.proofs.ChangeLaws.{nothing-moves, change-moves}
use Rattle.server_values.proofs.change.store.Goals as goal

pub set_value-requires : goal.set_value-requires
set_value-requires c = let p = c.requires in (p.0, p.1, p.2.0)

pub returns-then-differs_at : goal.returns-then-differs_at
unfolding changes
returns-then-differs_at c = let a = c.args in change-moves a.w.now a.defaults.now a.edits.now (values_of a.words.now a.nulls.now a.texts.now a.versions.now) a.i (datum_in a.src.now a.new) (sym c.differs_at.ensures ∙ c.if-differs_at.true) _ _ c.set_value.ensures c.set_text.ensures

pub returns-else-differs_at : goal.returns-else-differs_at
unfolding changes
returns-else-differs_at c = let a = c.args in nothing-moves a.w.now a.defaults.now a.edits.now (values_of a.words.now a.nulls.now a.texts.now a.versions.now) a.i (datum_in a.src.now a.new) (sym c.differs_at.ensures ∙ c.if-differs_at.false)
