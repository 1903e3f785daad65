use Rattle.std.proofs.Common.{◌≡◌, refl, ap, ◌∙◌, arith}
use Rattle.node_schema.specs.Check.{every, all_traits}
use Rattle.node_schema.proofs.TraitLaws.{traits-turn}
use Rattle.node_schema.proofs.check.all_traits.Goals as goal

pub loop-i-init : goal.loop-i-init
unfolding every
loop-i-init c = refl

pub loop-i-preserved : goal.loop-i-preserved
loop-i-preserved c =
    let a = c.args in
    let l = c.loop-i in
    traits-turn a.w.now l.i l.bits l.sums _ c.wrapping_add_u64-sums.ensures.value l.invariant

pub returns : goal.returns
returns c =
    let e : c.loop-i.i ≡ c.args.n = omega arith in
    c.top_bits_clear.ensures ∙ c.loop-i.invariant ∙ ap (all_traits c.args.w.now) e
