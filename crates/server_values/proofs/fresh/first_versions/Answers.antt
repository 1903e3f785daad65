use Prim.Native.Nat.{◌<◌}
use native.Mathlib.Omega.{arith}
use borrow.Author.Rules.{rules}
use Rattle.base_bounds.specs.Bounds.{cluster_limit}
use Rattle.node_schema.specs.Layout.{half}
use Rattle.node_schema.specs.Rows.{cluster_row}
use Rattle.node_schema.proofs.RowLaws.{fill-begin}
use Rattle.node_schema.proofs.IndexLaws.{to-index}
use Rattle.server_values.proofs.FreshLaws.{filled_more, filled-whole}
use Rattle.server_values.proofs.fresh.first_versions.Goals as goal

pub loop-i-init : goal.loop-i-init
loop-i-init c = (c.cluster_count-n.ensures, fill-begin 0 _ cluster_limit)

pub overflow_cast-versions : goal.overflow_cast-versions
overflow_cast-versions c = let l : (cluster_row c.args.w.now c.loop-i.i).version < half = (to-index c.args.w.now c.requires).versions c.loop-i.i (search rules) in omega (arith, l, c.cluster_version.ensures)

pub loop-i-preserved : goal.loop-i-preserved
loop-i-preserved c = let l = c.loop-i in (l.invariant.0, filled_more (λ k. (cluster_row c.args.w.now k).version) cluster_limit l.versions l.i l.invariant.1 _ c.cluster_version.ensures (search rules))

pub returns : goal.returns
returns c = let l = c.loop-i in filled-whole (λ k. (cluster_row c.args.w.now k).version) cluster_limit l.versions l.i l.invariant.1 _ (search rules) (search rules) _ l.invariant.0
