use mathlib.Core.Path.{◌≡◌, ap, ◌∙◌}
use Prim.Native.Nat.{ℕ, ◌+◌, ◌-◌}
use native.Mathlib.Omega.{arith}
use borrow.Author.Tests.{le-leb, lt-leb}
use lib.ListN.{take, drop}
use Rattle.base_utf8.specs.WellFormed.{well_formed}
use Rattle.node_kinds.specs.declared.Kind.TheVariants as Kinds
use Rattle.node_kinds.specs.Limits.{limited}
use Rattle.node_kinds.proofs.LimitLaws.{another-type, text-verdict}
use Rattle.node_kinds.proofs.limits.judge_text.Goals as goal

pub returns-in_default : goal.returns-in_default
returns-in_default c = another-type c.args.src.now Kinds.Text c.args.v c.in_default.not-Text

pub returns-then-len-gt-TEXT_MAX : goal.returns-then-len-gt-TEXT_MAX
returns-then-len-gt-TEXT_MAX c =
    let g = c.in-Text in
    rw (g.is, text-verdict c.args.src.now g.start g.len, lt-leb _ _ c.if-len-gt-TEXT_MAX.true)

pub returns-then-src-len : goal.returns-then-src-len
returns-then-src-len c =
    let g = c.in-Text in
    rw (g.is, text-verdict c.args.src.now g.start g.len, le-leb _ _ c.if-len-gt-TEXT_MAX.false, lt-leb _ _ c.if-src-len.true)

pub returns-then-src-len-2 : goal.returns-then-src-len-2
returns-then-src-len-2 c =
    let g = c.in-Text in
    rw (g.is, text-verdict c.args.src.now g.start g.len, le-leb _ _ c.if-len-gt-TEXT_MAX.false, le-leb _ _ c.if-src-len.false, lt-leb _ _ c.if-src-len-2.true)

pub returns : goal.returns
returns c =
    let s = c.args.src.now in
    let g = c.in-Text in
    let a = g.start in
    let n = g.len in
    let q : (a + n) - a ≡ n = omega arith in
    c.limited.ensures
    ∙ rw (g.is, text-verdict s a n, le-leb _ _ c.if-len-gt-TEXT_MAX.false, le-leb _ _ c.if-src-len.false, le-leb _ _ c.if-src-len-2.false) (ap limited (c.valid.ensures ∙ ap (λ (m : ℕ). well_formed (take m (drop a s))) q))
