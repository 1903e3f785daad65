use mathlib.Core.Path.{◌≡◌, ap, ◌∙◌}
use Prim.Native.Nat.{ℕ, ◌+◌, ◌-◌}
use native.Mathlib.Omega.{arith}
use borrow.Author.Tests.{le-leb, lt-leb}
use lib.ListN.{length, take, drop}
use Rattle.base_utf8.specs.WellFormed.{well_formed}
use Rattle.node_schema.proofs.BoolLaws.{past, fails}
use Rattle.node_plan.specs.Check.{factory_right}
use Rattle.node_plan.proofs.first.factory_ok.Goals as goal

pub returns-then-len-gt-TEXT_MAX : goal.returns-then-len-gt-TEXT_MAX
unfolding factory_right
returns-then-len-gt-TEXT_MAX c = fails _ _ (lt-leb _ _ c.if-len-gt-TEXT_MAX.true)

pub returns-then-defaults-len : goal.returns-then-defaults-len
unfolding factory_right
returns-then-defaults-len c = fails _ _ (lt-leb (c.args.start + c.args.len) (length c.args.defaults.now) (omega arith))
    ∙ past _ _ (le-leb _ _ c.if-len-gt-TEXT_MAX.false)

pub returns-then-defaults-len-2 : goal.returns-then-defaults-len-2
unfolding factory_right
returns-then-defaults-len-2 c = fails _ _ (lt-leb (c.args.start + c.args.len) (length c.args.defaults.now) (omega arith))
    ∙ past _ _ (le-leb _ _ c.if-len-gt-TEXT_MAX.false)

pub returns : goal.returns
unfolding factory_right
returns c = let s = c.args.defaults.now in
    let a = c.args.start in
    let n = c.args.len in
    let q : (a + n) - a ≡ n = omega arith in
    c.valid.ensures ∙ ap (λ (m : ℕ). well_formed (take m (drop a s))) q
    ∙ past _ _ (le-leb (a + n) (length s) (omega arith)) ∙ past _ _ (le-leb _ _ c.if-len-gt-TEXT_MAX.false)
