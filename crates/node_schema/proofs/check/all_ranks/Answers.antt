use Rattle.std.proofs.Common.{◌≡◌, ℕ, leb, sym, refl, ap, ◌∙◌, arith, rules}
use Rattle.node_schema.specs.Layout.{text_limit}
use Rattle.node_schema.specs.Check.{every, count, rank as rank_of}
use Rattle.node_schema.proofs.BoolLaws.{past, fails}
use Rattle.node_schema.proofs.CheckLaws.{every_more, every-fails, every-done, rank-fails, rank-holds, rank-more, rank_same, no_text}
use Rattle.node_schema.proofs.check.all_ranks.Goals as goal
use Rattle.node_schema.proofs.check.all_ranks.Goals.{then-is_text+else-w-i, else-is_text}

pub loop-i-init : goal.loop-i-init
unfolding every count
loop-i-init c = (search rules, refl, refl)

pub returns-then-w-i : goal.returns-then-w-i
returns-then-w-i c = fails _ _ (sym (every-fails _ _ c.loop-i.i (search rules) (rank-fails c.args.w.now c.loop-i.i _ c.loop-i.invariant.1 (sym c.is_text.ensures ∙ c.if-is_text.true) c.if-w-i.true)))

pub loop-i-preserved : goal.loop-i-preserved
loop-i-preserved c =
    let w = c.args.w.now in
    let l = c.loop-i in
    elim c.if-is_text.branch [
      | then-is_text+else-w-i b ↦ (omega arith, b.rank-is ∙ rank-more w l.i _ l.invariant.1 (sym c.is_text.ensures ∙ b.if-is_text.true), every_more _ _ l.invariant.2 (rank-holds w l.i _ l.invariant.1 (sym c.is_text.ensures ∙ b.if-is_text.true) b.if-w-i.false))
      | else-is_text b ↦ (omega arith, b.rank-is ∙ rank_same w l.i _ l.invariant.1 (sym c.is_text.ensures ∙ b.if-is_text.false), every_more _ _ l.invariant.2 (no_text w l.i (sym c.is_text.ensures ∙ b.if-is_text.false)))
    ]

pub returns : goal.returns
returns c =
    let a = c.args in
    let l = c.loop-i in
    let e : l.i ≡ a.n = omega arith in
    ap (λ (k : ℕ). leb k text_limit) (l.invariant.1 ∙ ap (rank_of a.w.now) e)
    ∙ past _ _ (sym (every-done _ _ _ (search rules) (search rules) l.invariant.2))
