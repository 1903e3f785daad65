use Rattle.std.proofs.Common.{◌≡◌, ℕ, ◌+◌, ◌-◌, Bool, ◌&&◌, ltb, refl, ap, ◌∙◌, add_assoc, arith, rules}
use lib.Bits.{and_le_l}
use Rattle.node_schema.specs.Rows.{word}
use Rattle.node_schema.specs.Check.{every, rises}
use Rattle.node_schema.proofs.RiseLaws.{step, gap_is, rise-turn, rise-whole}
use Rattle.node_schema.proofs.check.rising.Goals as goal

pub returns-then-n-eq0 : goal.returns-then-n-eq0
unfolding rises
returns-then-n-eq0 c = let e : c.args.n ≡ 0 = c.if-n-eq0.true in rw e

pub loop-i-init : goal.loop-i-init
unfolding every
loop-i-init c = (search rules, refl)

pub loop-i-preserved : goal.loop-i-preserved
loop-i-preserved c =
    let a = c.args in
    let l = c.loop-i in (
      omega (arith, and_le_l l.gaps c.wrapping_sub_u64-gaps.result, l.invariant.0),
      rise-turn a.w.now a.from l.words l.gaps l.i _ l.invariant.0 l.invariant.1 (gap_is _ _ _ (omega arith) (rw (add_assoc a.from l.i 1) at c.wrapping_sub_u64-gaps.ensures.value)),
    )

pub returns : goal.returns
returns c =
    let a = c.args in
    let l = c.loop-i in
    let last = a.n - 1 in
    let e : l.i ≡ last = omega arith in
    let f : last + 1 ≡ a.n = omega arith in
    ap (λ (b : Bool). b && ltb (word a.w.now a.from last) a.limit) (l.invariant.1 ∙ ap (every (step a.w.now a.from)) e)
    ∙ rise-whole a.w.now a.from last a.limit c.requires.1
    ∙ ap (λ (k : ℕ). rises a.w.now a.from k a.limit) f
