use mathlib.Core.Path.{sym, ◌∙◌}
use Rattle.node_kinds.specs.Float.{range_ok}
use Rattle.node_kinds.proofs.FloatLaws.{finite-order}
use Rattle.node_kinds.proofs.float.range_ok.Goals as goal

pub returns-then-not-finite_bits : goal.returns-then-not-finite_bits
unfolding range_ok
returns-then-not-finite_bits c = simp (sym c.finite_bits.ensures ∙ c.if-not-finite_bits.true)

pub returns-then-not-finite_bits-2 : goal.returns-then-not-finite_bits-2
unfolding range_ok
returns-then-not-finite_bits-2 c = simp (
  sym c.finite_bits.ensures ∙ c.if-not-finite_bits.false,
  sym c.finite_bits-2.ensures ∙ c.if-not-finite_bits-2.true,
)

pub returns-then-not-finite_bits-3 : goal.returns-then-not-finite_bits-3
unfolding range_ok
returns-then-not-finite_bits-3 c = simp (
  sym c.finite_bits.ensures ∙ c.if-not-finite_bits.false,
  sym c.finite_bits-2.ensures ∙ c.if-not-finite_bits-2.false,
  sym c.finite_bits-3.ensures ∙ c.if-not-finite_bits-3.true,
)

pub returns : goal.returns
unfolding range_ok
returns c = c.in_order.ensures ∙ finite-order c.args.low c.args.high c.args.first
    (sym c.finite_bits.ensures ∙ c.if-not-finite_bits.false)
    (sym c.finite_bits-2.ensures ∙ c.if-not-finite_bits-2.false)
    (sym c.finite_bits-3.ensures ∙ c.if-not-finite_bits-3.false)
    c.range_of.result c.range_of.ensures
