use mathlib.Core.Path.{sym, ap, ◌∙◌}
use Rattle.server_selection.specs.declared.reach.Use.TheVariants.{Read}
use Rattle.server_selection.specs.Items.{found_item, read_item}
use Rattle.server_selection.proofs.ReachLaws.{allowed-within}
use Rattle.server_selection.proofs.items.read_item.Goals as goal

pub found_item-requires : goal.found_item-requires
found_item-requires c = let a = c.args in λ j e. allowed-within Read a.w.now (record { level = a.level.now }) a.i j c.requires (sym c.allow.ensures ∙ e)

pub returns : goal.returns
unfolding read_item
returns c = let a = c.args in c.found_item.ensures ∙ ap (found_item a.w.now a.skips.now) c.allow.ensures
