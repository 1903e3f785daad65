use mathlib.Core.Path.{sym, ap, ◌∙◌}
use Rattle.server_selection.specs.declared.reach.Use.TheVariants.{Read}
use Rattle.server_selection.specs.Items.{found_item, concrete_item}
use Rattle.server_selection.proofs.ReachLaws.{reached-within}
use Rattle.server_selection.proofs.items.concrete_item.Goals as goal

pub found_item-requires : goal.found_item-requires
found_item-requires c = let a = c.args in λ j e. reached-within Read a.w.now (record { level = a.level.now }) a.p.endpoint a.p.cluster a.p.attribute j (sym c.reach.ensures ∙ e)

pub returns : goal.returns
unfolding concrete_item
returns c = let a = c.args in c.found_item.ensures ∙ ap (found_item a.w.now a.skips.now) c.reach.ensures
