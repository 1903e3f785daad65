use mathlib.Core.Path.{◌≡◌, refl, sym, ◌∙◌}
use Rattle.server_selection.specs.Locate.{located}
use Rattle.server_selection.proofs.LocateLaws.{located_here}
use Rattle.server_writes.specs.Offer.{changed}
use Rattle.server_writes.proofs.change.Goals as goal

pub offer-requires : goal.offer-requires
offer-requires c = let a = c.args in (c.requires.0, ((located_here a.w.now a.endpoint a.cluster a.attribute _ (sym c.locate.ensures ∙ c.in-Here.is)).0, c.requires.1))

pub returns-in-Here : goal.returns-in-Here
unfolding changed
returns-in-Here c = let a = c.args in
    let q : located a.w.now a.endpoint a.cluster a.attribute ≡ _ = sym c.locate.ensures ∙ c.in-Here.is in
    rw q c.offer.ensures

pub returns-in-Refused : goal.returns-in-Refused
unfolding changed
returns-in-Refused c = let a = c.args in
    let q : located a.w.now a.endpoint a.cluster a.attribute ≡ _ = sym c.locate.ensures ∙ c.in-Refused.is in
    rw q refl
