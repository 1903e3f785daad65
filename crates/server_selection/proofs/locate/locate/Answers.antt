use mathlib.Core.Path.{sym, ap, ◌∙◌}
use Rattle.server_selection.specs.Locate.{attribute_found}
use Rattle.server_selection.proofs.LocateLaws.{no-endpoint, no-cluster, in-cluster}
use Rattle.server_selection.proofs.locate.locate.Goals as goal

pub returns-then-not-has_endpoint : goal.returns-then-not-has_endpoint
returns-then-not-has_endpoint c = let a = c.args in sym (no-endpoint a.w.now a.endpoint a.cluster a.attribute (sym c.has_endpoint.ensures ∙ c.if-not-has_endpoint.true))

pub returns-in_default : goal.returns-in_default
returns-in_default c = let a = c.args in sym (no-cluster a.w.now a.endpoint a.cluster a.attribute (sym c.has_endpoint.ensures ∙ c.if-not-has_endpoint.false) (sym c.find_cluster.ensures ∙ c.in_default.is))

pub returns-in_default-find_attribute : goal.returns-in_default-find_attribute
returns-in_default-find_attribute c = let a = c.args in sym (in-cluster a.w.now a.endpoint a.cluster a.attribute (sym c.has_endpoint.ensures ∙ c.if-not-has_endpoint.false) (sym c.find_cluster.ensures ∙ c.in-Some.is) ∙ ap attribute_found (sym c.find_attribute.ensures ∙ c.in_default-find_attribute.is))

pub returns : goal.returns
returns c = let a = c.args in sym (in-cluster a.w.now a.endpoint a.cluster a.attribute (sym c.has_endpoint.ensures ∙ c.if-not-has_endpoint.false) (sym c.find_cluster.ensures ∙ c.in-Some.is) ∙ ap attribute_found (sym c.find_attribute.ensures ∙ c.in-Some-find_attribute.is))
