use mathlib.Core.Path.{refl}
use mathlib.Core.Bool.{false}
use Prim.Native.Nat.{◌<◌}
use native.Mathlib.Omega.{arith}
use lib.ListN.{get_or}
use Rattle.base_bounds.specs.Bounds.{cluster_limit}
use Rattle.server_values.specs.Values.{values_of}
use Rattle.server_report.proofs.OfferLaws.{offered-as}
use Rattle.server_report.proofs.ValueLaws.{value-inside, cluster-within, endpoint-fits, value-block}
use Rattle.server_report.proofs.block.offer_value.Goals as goal
use Rattle.server_report.proofs.block.offer_value.Goals.{After-attribute_cluster-k}

-- its cluster is one of the schema's
within : (c : After-attribute_cluster-k) → c.attribute_cluster-k.result < cluster_limit
within c = cluster-within c.args.w.now c.requires.0 c.args.i c.requires.1.0 c.attribute_cluster-k.ensures

pub returns : goal.returns
returns c =
    let a = c.args in
    offered-as
    (value-block a.w.now c.requires.0 a.i c.requires.1.0 (values_of a.words.now a.nulls.now a.texts.now a.versions.now) a.defaults.now a.edits.now c.attribute_cluster-k.ensures refl c.cluster_endpoint.ensures c.cluster_id.ensures c.attribute_id.ensures c.text_at-text.ensures c.value_at-v.ensures)
    c.offer_data.ensures

pub offset_bounds-versions-k : goal.offset_bounds-versions-k
offset_bounds-versions-k c = omega (arith, within (goal.at.offset_bounds-versions-k c).After-attribute_cluster-k)

pub bounds-versions-k : goal.bounds-versions-k
bounds-versions-k c = omega (arith, within (goal.at.bounds-versions-k c).After-attribute_cluster-k)

pub cluster_endpoint-requires : goal.cluster_endpoint-requires
cluster_endpoint-requires c = within (goal.at.cluster_endpoint-requires c).After-attribute_cluster-k

pub overflow_cast-cluster_endpoint : goal.overflow_cast-cluster_endpoint
overflow_cast-cluster_endpoint c = omega (arith, endpoint-fits c.args.w.now c.requires.0 c.args.i c.requires.1.0 c.attribute_cluster-k.ensures c.cluster_endpoint.ensures)

pub cluster_id-requires : goal.cluster_id-requires
cluster_id-requires c = within (goal.at.cluster_id-requires c).After-attribute_cluster-k

pub offer_data-requires : goal.offer_data-requires
offer_data-requires c = let a = c.args in (value-inside a.w.now a.i (get_or a.words.now a.i 0) (get_or a.nulls.now a.i false) _ c.value_at-v.ensures, c.requires.1.1)
