use Rattle.std.proofs.Common.{◌≡◌, sym, refl, ap, ◌∙◌, arith, rules}
use Rattle.node_schema.specs.Rows.{count_of_attributes}
use Rattle.node_schema.specs.Check.{count, rank}
use Rattle.node_schema.proofs.CheckLaws.{rank-more, rank_same}
use Rattle.node_schema.proofs.texts.text_count.Goals as goal
use Rattle.node_schema.proofs.texts.text_count.Goals.{then-is_text, else-is_text}

pub loop-i-init : goal.loop-i-init
unfolding count
loop-i-init c = (search rules, c.attribute_count-n.ensures, refl)

pub loop-i-preserved : goal.loop-i-preserved
loop-i-preserved c =
    let w = c.args.w.now in
    let l = c.loop-i in
    elim c.if-is_text.branch [
      | then-is_text b ↦ (omega arith, l.invariant.1, b.texts-is ∙ rank-more w l.i _ l.invariant.2 (sym c.is_text.ensures ∙ b.if-is_text.true))
      | else-is_text b ↦ (omega arith, l.invariant.1, b.texts-is ∙ rank_same w l.i _ l.invariant.2 (sym c.is_text.ensures ∙ b.if-is_text.false))
    ]

pub returns : goal.returns
returns c =
    let e : c.loop-i.i ≡ count_of_attributes c.args.w.now = omega arith in
    c.loop-i.invariant.2 ∙ ap (rank c.args.w.now) e
