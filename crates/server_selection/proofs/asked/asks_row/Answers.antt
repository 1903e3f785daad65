use mathlib.Core.Path.{sym, ap, ◌∙◌}
use native.Mathlib.Omega.{arith}
use Rattle.server_selection.specs.Asked.{asks_for}
use Rattle.server_selection.proofs.AskedLaws.{cluster-of, path-of, asks-everything}
use Rattle.server_selection.proofs.asked.asks_row.Goals as goal

pub returns-then-asks_all : goal.returns-then-asks_all
returns-then-asks_all c = asks-everything _ _ (sym c.asks_all.ensures ∙ c.if-asks_all.true)

pub cluster_endpoint-requires : goal.cluster_endpoint-requires
cluster_endpoint-requires c =
    omega (arith, c.attribute_cluster-k.ensures, cluster-of c.args.w.now c.requires.0 c.args.i c.requires.1)

pub cluster_id-requires : goal.cluster_id-requires
cluster_id-requires c =
    omega (arith, c.attribute_cluster-k.ensures, cluster-of c.args.w.now c.requires.0 c.args.i c.requires.1)

pub returns : goal.returns
returns c =
    c.asks.ensures
    ∙ ap (asks_for c.args.p) (path-of c.args.w.now c.requires.0 c.args.i c.requires.1 c.attribute_cluster-k.ensures c.cluster_endpoint.ensures c.cluster_id.ensures c.attribute_id.ensures)
