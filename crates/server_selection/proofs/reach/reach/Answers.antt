use mathlib.Core.Path.{sym, ap, ◌∙◌}
use native.Mathlib.Omega.{arith}
use Rattle.server_selection.specs.declared.locate.Located.{Located}
use Rattle.server_selection.specs.Reach.{allowed, and_then, reached}
use Rattle.server_selection.proofs.LocateLaws.{located_here}
use Rattle.server_selection.proofs.reach.reach.Goals as goal

pub allow-requires : goal.allow-requires
allow-requires c = let a = c.args in omega (arith, (located_here a.w.now a.endpoint a.cluster a.attribute _ (sym c.locate.ensures ∙ c.in-Here.is)).0)

pub returns-in-Here : goal.returns-in-Here
unfolding reached
returns-in-Here c = let a = c.args in c.allow.ensures ∙ sym (ap (λ (l : Located). and_then l (allowed a.purpose a.w.now (record { level = a.level.now }))) (sym c.locate.ensures ∙ c.in-Here.is))

pub returns-in-Refused : goal.returns-in-Refused
unfolding reached
returns-in-Refused c = let a = c.args in sym (ap (λ (l : Located). and_then l (allowed a.purpose a.w.now (record { level = a.level.now }))) (sym c.locate.ensures ∙ c.in-Refused.is))
