use mathlib.Core.Path.{sym, ap}
use native.Mathlib.Omega.{arith}
use Rattle.server_selection.specs.Items.{found_item}
use Rattle.server_selection.proofs.ItemLaws.{found_here}
use Rattle.server_selection.proofs.items.found_item.Goals as goal

pub attribute_cluster-requires : goal.attribute_cluster-requires
attribute_cluster-requires c = (c.requires _ c.in-Here.is).attribute

pub bounds-skips-attribute_cluster : goal.bounds-skips-attribute_cluster
bounds-skips-attribute_cluster c = omega (arith, c.attribute_cluster.ensures, (c.requires _ c.in-Here.is).cluster)

pub returns-then-skips-attribute_cluster : goal.returns-then-skips-attribute_cluster
returns-then-skips-attribute_cluster c = let a = c.args in sym (found_here a.w.now a.skips.now c.in-Here.is c.attribute_cluster.ensures c.if-skips-attribute_cluster.true)

pub returns-else-skips-attribute_cluster : goal.returns-else-skips-attribute_cluster
returns-else-skips-attribute_cluster c = let a = c.args in sym (found_here a.w.now a.skips.now c.in-Here.is c.attribute_cluster.ensures c.if-skips-attribute_cluster.false)

pub returns-in-Refused : goal.returns-in-Refused
returns-in-Refused c = let a = c.args in sym (ap (found_item a.w.now a.skips.now) c.in-Refused.is)
