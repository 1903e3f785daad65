use mathlib.Core.Path.{◌∙◌}
use mir.Syntax.{w64}
use mir.ValLaws.{of_z-to_z}
use Rattle.node_plan.proofs.first.signed_ok.Goals as goal

pub returns : goal.returns
returns c = c.signed_within.ensures
    ∙ simp (c.signed_of.ensures, c.signed_of-2.ensures, c.signed_of-3.ensures, of_z-to_z w64 c.args.low c.ranges.low, of_z-to_z w64 c.args.n c.ranges.n, of_z-to_z w64 c.args.high c.ranges.high)
