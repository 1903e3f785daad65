use mathlib.Core.Path.{◌≡◌, ap, ◌∙◌}
use native.Mathlib.Omega.{arith}
use Rattle.tlv_reader.specs.Octet.{tag_width}
use Rattle.tlv_reader.proofs.tag_at.Goals as goal
use Rattle.tlv_reader.proofs.tag_at.Goals.{Then-form-eq0, Then-form-eq1}

-- the width of a tag of one form
one : (c : Then-form-eq1) → c.args.w ≡ 1
unfolding tag_width
one c = c.requires.0 ∙ ap tag_width c.if-form-eq1.true

none : (c : Then-form-eq0) → c.args.w ≡ 0
unfolding tag_width
none c = c.requires.0 ∙ ap tag_width c.if-form-eq0.true

pub number-requires : goal.number-requires
number-requires c = omega (arith, one (goal.at.number-requires c).Then-form-eq1, c.requires.1.1)

pub returns-then-form-eq1 : goal.returns-then-form-eq1
returns-then-form-eq1 c = rw (one (goal.at.returns-then-form-eq1 c).Then-form-eq1) c.number.ensures

pub number-requires-then-form-eq0 : goal.number-requires-then-form-eq0
number-requires-then-form-eq0 c = omega (arith, none (goal.at.number-requires-then-form-eq0 c).Then-form-eq0, c.requires.1.1)

pub returns-then-form-eq0 : goal.returns-then-form-eq0
returns-then-form-eq0 c = rw (none (goal.at.returns-then-form-eq0 c).Then-form-eq0) c.number-then-form-eq0.ensures

pub returns : goal.returns
returns c = c.number-2.ensures
