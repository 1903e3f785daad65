use mathlib.Core.Path.{◌≡◌, refl, sym, ap, ◌∙◌}
use mathlib.Core.Bool.{true, false}
use Prim.Native.Nat.{◌<◌}
use native.Mathlib.Omega.{arith}
use Rattle.node_schema.specs.Rows.{count_of_attributes}
use Rattle.server_selection.specs.Asked.{concrete}
use Rattle.server_selection.specs.Items.{silent, span, item_at, wildcard_item}
use Rattle.server_selection.proofs.AskedLaws.{cluster-of}
use Rattle.server_selection.proofs.ItemLaws.{wildcard-skipped}
use Rattle.server_selection.proofs.items.item_at.Goals as goal
use Rattle.server_selection.proofs.items.item_at.Goals.{Else-is_concrete}

pub returns-then-is_concrete : goal.returns-then-is_concrete
unfolding item_at
returns-then-is_concrete c = let q : concrete c.args.p ≡ true = sym c.is_concrete.ensures ∙ c.if-is_concrete.true in rw q c.concrete_item.ensures

-- a path that is not concrete has a place for each attribute
not-wild : (c : Else-is_concrete) → concrete c.args.p ≡ false
not-wild c = sym c.is_concrete.ensures ∙ c.if-is_concrete.false

wild : (c : Else-is_concrete) → c.args.i < count_of_attributes c.args.w.now
unfolding span
wild c = rw (not-wild c) at c.requires.1

pub attribute_cluster-requires : goal.attribute_cluster-requires
attribute_cluster-requires c = omega (arith, wild (goal.at.attribute_cluster-requires c).Else-is_concrete)

pub bounds-skips-attribute_cluster : goal.bounds-skips-attribute_cluster
bounds-skips-attribute_cluster c = omega (arith, c.attribute_cluster.ensures, cluster-of c.args.w.now c.requires.0 c.args.i (wild (goal.at.bounds-skips-attribute_cluster c).Else-is_concrete))

pub returns-then-skips-attribute_cluster : goal.returns-then-skips-attribute_cluster
unfolding item_at
returns-then-skips-attribute_cluster c = let a = c.args in rw (not-wild (goal.at.returns-then-skips-attribute_cluster c).Else-is_concrete) (sym (wildcard-skipped a.w.now (record { level = a.level.now }) _ a.p a.i c.attribute_cluster.ensures c.if-skips-attribute_cluster.true))

pub asks_row-requires : goal.asks_row-requires
asks_row-requires c = (c.requires.0, wild (goal.at.asks_row-requires c).Else-is_concrete)

pub returns-then-not-asks_row : goal.returns-then-not-asks_row
unfolding item_at wildcard_item
returns-then-not-asks_row c = rw (not-wild (goal.at.returns-then-not-asks_row c).Else-is_concrete, sym c.asks_row.ensures ∙ c.if-not-asks_row.true) refl

pub read_item-requires : goal.read_item-requires
read_item-requires c = omega (arith, wild (goal.at.read_item-requires c).Else-is_concrete)

pub returns : goal.returns
unfolding item_at wildcard_item
returns c = rw (not-wild (goal.at.returns c).Else-is_concrete, sym c.asks_row.ensures ∙ c.if-not-asks_row.false) (c.silenced.ensures ∙ ap silent c.read_item.ensures)
