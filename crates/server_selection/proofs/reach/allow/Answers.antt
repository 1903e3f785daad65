use mathlib.Core.Path.{sym, ap, ◌∙◌}
use Rattle.server_selection.specs.declared.locate.Located.TheVariants.{Refused}
use Rattle.server_selection.proofs.ReachLaws.{not-for, not-granted, is-allowed}
use Rattle.server_selection.proofs.reach.allow.Goals as goal

pub returns-then-need-eq0 : goal.returns-then-need-eq0
returns-then-need-eq0 c = let a = c.args in ap Refused c.unsupported.ensures ∙ sym (not-for a.purpose a.w.now (record { level = a.level.now }) a.i c.needed-need.ensures c.if-need-eq0.true)

pub returns-then-not-is_granted : goal.returns-then-not-is_granted
returns-then-not-is_granted c = let a = c.args in sym (not-granted a.purpose a.w.now (record { level = a.level.now }) a.i c.needed-need.ensures c.if-need-eq0.false c.attribute_cluster.ensures (sym c.is_granted.ensures ∙ c.if-not-is_granted.true))

pub returns : goal.returns
returns c = let a = c.args in sym (is-allowed a.purpose a.w.now (record { level = a.level.now }) a.i c.needed-need.ensures c.if-need-eq0.false c.attribute_cluster.ensures (sym c.is_granted.ensures ∙ c.if-not-is_granted.false))
