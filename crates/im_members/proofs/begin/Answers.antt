use mathlib.Core.Path.{sym, ◌∙◌}
use Rattle.im_members.proofs.PassCases.{of_other, of-deep, of-in}
use Rattle.im_members.proofs.begin.Goals as goal

pub returns-then-e-kind : goal.returns-then-e-kind
returns-then-e-kind c = let a = c.args in c.refused-none.ensures ∙ sym (of_other a.kind a.left a.s.now a.listed.now a.stops.now a.e c.if-e-kind.true)

pub returns-then-left-eq0 : goal.returns-then-left-eq0
returns-then-left-eq0 c = let a = c.args in c.refused-none.ensures ∙ sym (of-deep a.kind a.left a.s.now a.listed.now a.stops.now a.e c.if-left-eq0.true)

pub returns : goal.returns
returns c = let a = c.args in of-in a.kind a.left a.s.now a.listed.now a.stops.now a.e c.if-e-kind.false c.if-left-eq0.false c.refused-none.ensures c.resume.ensures
