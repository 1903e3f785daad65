use mathlib.Core.Path.{◌≡◌, sym, ◌∙◌}
use mathlib.Core.Bool.{false}
use lib.Ieee.{binary32, nan_bits}
use Rattle.node_kinds.specs.Float.{in_range}
use Rattle.node_kinds.proofs.FloatLaws.{nan-range}
use Rattle.node_kinds.proofs.float.in_range.Goals as goal

pub returns-then-nan_bits : goal.returns-then-nan_bits
returns-then-nan_bits c = sym (nan-range c.args.r c.args.bits (sym c.nan_bits.ensures ∙ c.if-nan_bits.true))

pub float_from_bits-x : goal.float_from_bits-x
float_from_bits-x c =
    let e : nan_bits binary32 c.args.bits ≡ false = sym c.nan_bits.ensures ∙ c.if-nan_bits.false in
    rw e tt

pub returns-then-r-x : goal.returns-then-r-x
unfolding in_range
returns-then-r-x c = simp c.if-r-x.true

pub returns-else-r-x : goal.returns-else-r-x
unfolding in_range
returns-else-r-x c = simp c.if-r-x.false
