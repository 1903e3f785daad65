use native.Mathlib.Omega.{arith}
use Rattle.tlv_vectors.proofs.Heads.{onward, in-page}
use mathlib.Core.Path.{sym, ◌∙◌}
use borrow.Author.Rules.{rules}
use Rattle.tlv_vectors.proofs.rewrite.elements.Goals as goal

pub element-requires : goal.element-requires
element-requires c = (in-page c.args.s.now c.loop-at.at (sym c.head.ensures ∙ c.in_ok-e.was), search rules)

pub loop-at-smaller : goal.loop-at-smaller
loop-at-smaller c = omega (arith, onward c.args.s.now c.loop-at.at (sym c.head.ensures ∙ c.in_ok-e.was))

pub loop-at-preserved : goal.loop-at-preserved
loop-at-preserved c = (search rules, rw c.in_ok-n.was at c.element.ensures)
