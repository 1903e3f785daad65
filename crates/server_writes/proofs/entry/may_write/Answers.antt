use mathlib.Core.Path.{sym, ap, ◌∙◌}
use Rattle.server_selection.specs.declared.locate.Located.{Located}
use Rattle.server_selection.specs.declared.reach.Use.TheVariants.{Write}
use Rattle.server_selection.specs.Reach.{and_then}
use Rattle.server_selection.proofs.ReachLaws.{reached-within}
use Rattle.server_writes.specs.Entry.{at_version, may_write}
use Rattle.server_writes.proofs.entry.may_write.Goals as goal

pub at_version-requires : goal.at_version-requires
at_version-requires c = let a = c.args in reached-within Write a.w.now a.g a.x.endpoint a.x.cluster a.x.attribute _ (sym c.reach.ensures ∙ c.in-Here.is)

pub returns-in-Here : goal.returns-in-Here
unfolding may_write
returns-in-Here c = let a = c.args in c.at_version.ensures ∙ sym (ap (λ (l : Located). and_then l (at_version a.w.now a.versions.now a.x.version)) (sym c.reach.ensures ∙ c.in-Here.is))

pub returns-in-Refused : goal.returns-in-Refused
unfolding may_write
returns-in-Refused c = let a = c.args in sym (ap (λ (l : Located). and_then l (at_version a.w.now a.versions.now a.x.version)) (sym c.reach.ensures ∙ c.in-Refused.is))
