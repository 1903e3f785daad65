use mathlib.Core.Path.{refl, sym, ◌∙◌}
use borrow.Author.Tests.{eq-eqb, ne_eqb}
use Rattle.tlv_reader.specs.Octet.{structure}
use Rattle.im_members.specs.Pass.{pass_from}
use Rattle.im_requests.specs.Read.{read_tags, pass_version_filters}
use Rattle.im_requests.proofs.PassLaws.{list-as}
use Rattle.im_requests.proofs.ReadPass.{found_none, found_some}
use Rattle.im_requests.proofs.pass_version_filters.Goals as goal

pub returns-in_default : goal.returns-in_default
unfolding pass_version_filters
returns-in_default c = sym (simp c.in_default.is)

pub returns-then-here-ne4 : goal.returns-then-here-ne4
unfolding pass_version_filters
returns-then-here-ne4 c = sym (simp (c.in-Some.is, ne_eqb _ _ c.if-here-ne4.true))

pub returns-in_default-list_of : goal.returns-in_default-list_of
unfolding pass_version_filters
returns-in_default-list_of c = let a = c.args in let on = pass_from 9 a.s.now structure read_tags a.stops.now a.at.now a.codes.now in
    found_none on (list-as c.in_default-list_of.is c.list_of.ensures) refl c.refused-stop.ensures ∙ sym (simp (c.in-Some.is, eq-eqb _ _ c.if-here-ne4.false))

pub returns : goal.returns
unfolding pass_version_filters
returns c = let a = c.args in let on = pass_from 9 a.s.now structure read_tags a.stops.now a.at.now a.codes.now in
    found_some on (list-as c.in-Some-list_of.is c.list_of.ensures) refl c.resume-stop.ensures ∙ sym (simp (c.in-Some.is, eq-eqb _ _ c.if-here-ne4.false))
