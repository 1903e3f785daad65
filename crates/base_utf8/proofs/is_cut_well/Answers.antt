use mathlib.Core.Path.{sym, ◌∙◌}
use native.Mathlib.Omega.{arith}
use Rattle.base_utf8.proofs.Cuts.{cut-past, cut-long, cut-wrong, cut_right}
use Rattle.base_utf8.proofs.is_cut_well.Goals as goal

-- `utf8::is_cut_well` meets its contract.
pub returns-then-page-start : goal.returns-then-page-start
returns-then-page-start c = cut-past _ _ _ c.if-page-start.true

pub returns-then-page-start-2 : goal.returns-then-page-start-2
returns-then-page-start-2 c = c.is_boundary.ensures ∙ cut-long _ _ _ (omega arith) (omega arith)

pub returns-then-not-is_boundary : goal.returns-then-not-is_boundary
returns-then-not-is_boundary c = cut-wrong _ _ _ (rw (sym c.is_boundary-2.ensures ∙ c.if-not-is_boundary.true))

pub returns-then-not-is_boundary-2 : goal.returns-then-not-is_boundary-2
returns-then-not-is_boundary-2 c =
    cut-wrong _ _ _
    (rw (sym c.is_boundary-2.ensures ∙ c.if-not-is_boundary.false, sym c.is_boundary-3.ensures ∙ c.if-not-is_boundary-2.true))

pub returns : goal.returns
returns c =
    cut_right _ _ _
    (rw (sym c.is_boundary-2.ensures ∙ c.if-not-is_boundary.false, sym c.is_boundary-3.ensures ∙ c.if-not-is_boundary-2.false))
