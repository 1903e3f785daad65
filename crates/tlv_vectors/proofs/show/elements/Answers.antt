use native.Mathlib.Omega.{arith}
use Rattle.tlv_vectors.proofs.Heads.{onward, in-page}
use mathlib.Core.Path.{sym, ◌∙◌}
use Rattle.tlv_vectors.proofs.show.elements.Goals as goal

pub element-requires : goal.element-requires
element-requires g c = in-page c.args.s.now c.loop-at.at (sym c.head.ensures ∙ c.in-Some.is)

pub loop-at-smaller : goal.loop-at-smaller
loop-at-smaller g c = omega (arith, onward c.args.s.now c.loop-at.at (sym c.head.ensures ∙ c.in-Some.is))
