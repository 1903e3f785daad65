use mathlib.Core.Path.{◌∙◌}
use Rattle.node_kinds.proofs.StoredLaws.{equal-pointwise}
use Rattle.node_kinds.proofs.stored.same_bytes.Goals as goal

pub returns : goal.returns
returns c = c.eq.ensures ∙ equal-pointwise _ _
