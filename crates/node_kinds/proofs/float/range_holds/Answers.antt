use mathlib.Core.Path.{◌≡◌, sym, ◌∙◌}
use mathlib.Core.Bool.{true, false}
use Rattle.node_kinds.specs.Float.{float32, finite, range_ok}
use Rattle.node_kinds.proofs.FloatLaws.{infinite-range}
use Rattle.node_kinds.proofs.float.range_holds.Goals as goal
use Rattle.node_kinds.proofs.float.range_holds.Goals.{Else-not-range_ok}

pub returns-then-not-range_ok : goal.returns-then-not-range_ok
returns-then-not-range_ok c = simp (sym c.range_ok.ensures ∙ c.if-not-range_ok.true)

-- the schema's three values are right
right : (c : Else-not-range_ok) → range_ok c.args.low c.args.high c.args.first ≡ true
right c = sym c.range_ok.ensures ∙ c.if-not-range_ok.false

pub returns-then-not-finite_bits : goal.returns-then-not-finite_bits
returns-then-not-finite_bits c =
    let a = c.args in
    let h = right (goal.at.returns-then-not-finite_bits c).Else-not-range_ok in
    let n : finite (float32 a.held) ≡ false = sym c.finite_bits.ensures ∙ c.if-not-finite_bits.true in
    simp (h, infinite-range a.low a.high a.first a.held h n)

pub returns : goal.returns
returns c = c.in_range.ensures ∙ simp (c.range_of.ensures, right (goal.at.returns c).Else-not-range_ok)
