use Rattle.std.proofs.Common.{sym, ap, ◌∙◌, rules, eq-eqb, ne_eqb}
use Rattle.node_schema.specs.Search.{is_found}
use Rattle.node_schema.proofs.SearchLaws.{begin, hit, miss, done}
use Rattle.node_schema.proofs.find.has_endpoint.Goals as goal

pub loop-i-init : goal.loop-i-init
loop-i-init c = (c.cluster_count-n.ensures, begin _ _)

pub returns-then-cluster_endpoint-endpoint : goal.returns-then-cluster_endpoint-endpoint
returns-then-cluster_endpoint-endpoint c = ap is_found (hit _ _ _ (search rules) c.loop-i.invariant.1 (eq-eqb _ _ (sym c.cluster_endpoint.ensures ∙ c.if-cluster_endpoint-endpoint.true)))

pub loop-i-preserved : goal.loop-i-preserved
loop-i-preserved c = (c.loop-i.invariant.0, miss _ _ _ (search rules) c.loop-i.invariant.1 (ne_eqb _ _ (λ q. c.if-cluster_endpoint-endpoint.false (c.cluster_endpoint.ensures ∙ q))))

pub returns : goal.returns
returns c = ap is_found (done _ _ _ (search rules) c.loop-i.invariant.1)
