use Rattle.std.proofs.Common.{◌≡◌}
use lib.Bits.{bit_or}
use Rattle.node_schema.specs.Check.{top_bits_clear, all_traits}
use Rattle.node_schema.proofs.check.all_traits.Given as goal

abbrev pub invariant-loop-i : goal.invariant-loop-i
invariant-loop-i l = (top_bits_clear (bit_or l.bits l.sums) ≡ all_traits l.w l.i)
