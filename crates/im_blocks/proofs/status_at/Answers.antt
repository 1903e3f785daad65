use mathlib.Core.Path.{sym, ap, ◌∙◌}
use Rattle.im_blocks.proofs.OnLaws.{status-reads}
use Rattle.im_blocks.proofs.status_at.Goals as goal
use Rattle.tlv_reader.specs.Walk.{read_of}

pub returns-in_err-e : goal.returns-in_err-e
returns-in_err-e c = let a = c.args in c.from_residual.ensures ∙ sym (ap read_of ((status-reads a.left a.s.now).none a.c.at (sym c.head.ensures ∙ c.in_err-e.was)))

pub returns : goal.returns
returns c = let a = c.args in c.status_of.ensures ∙ sym (ap read_of ((status-reads a.left a.s.now).here a.c.at _ (sym c.head.ensures ∙ c.in_ok-e.was)))
