use mathlib.Core.Path.{◌≡◌, sym, ◌∙◌}
use mathlib.Core.Bool.{true, false}
use lib.Ieee.{of_bits, binary32, nan_bits}
use Rattle.node_kinds.specs.Float.{float_of}
use Rattle.node_kinds.proofs.FloatLaws.{float_of-number}
use Rattle.node_kinds.proofs.float.float_of.Goals as goal

pub float_from_bits-result : goal.float_from_bits-result
float_from_bits-result c =
    let e : nan_bits binary32 c.args.n ≡ false = sym c.nan_bits.ensures ∙ c.if-nan_bits.false in
    rw e tt

pub returns-then-nan_bits : goal.returns-then-nan_bits
unfolding float_of of_bits
returns-then-nan_bits c =
    let e : nan_bits binary32 c.args.n ≡ true = sym c.nan_bits.ensures ∙ c.if-nan_bits.true in
    simp e

pub returns-else-nan_bits : goal.returns-else-nan_bits
returns-else-nan_bits c = sym (float_of-number c.args.n (sym c.nan_bits.ensures ∙ c.if-nan_bits.false))
