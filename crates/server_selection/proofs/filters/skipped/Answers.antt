use mathlib.Core.Path.{refl, ap, ◌∙◌}
use mathlib.Core.Bool.{false}
use native.Mathlib.Omega.{arith}
use Rattle.base_bounds.specs.Bounds.{cluster_limit}
use Rattle.node_schema.specs.Rows.{filled}
use Rattle.node_schema.proofs.RowLaws.{fill-begin}
use Rattle.server_selection.specs.Filters.{skips_now}
use Rattle.server_selection.proofs.FilterLaws.{skip_at, skips-step}
use borrow.Author.Rules.{rules}
use Rattle.server_selection.proofs.filters.skipped.Goals as goal

pub loop-k-init : goal.loop-k-init
loop-k-init c = (c.cluster_count-count.ensures, fill-begin false _ cluster_limit)

pub loop-k-preserved : goal.loop-k-preserved
loop-k-preserved c = let a = c.args in let l = c.loop-k in (l.invariant.0, skips-step a.row.now a.versions.now l.skip l.k l.invariant.1 (search rules) _ _ refl c.from.ensures)

pub returns : goal.returns
unfolding skips_now
returns c = let a = c.args in let l = c.loop-k in l.invariant.1 ∙ ap (filled false (skip_at a.row.now a.versions.now) cluster_limit) (omega (arith, l.invariant.0, c.loop-k-test.false))
