use mathlib.Core.Path.{sym, ap, ◌∙◌}
use Rattle.tlv_reader.specs.Walk.{ended}
use Rattle.tlv_reader.proofs.WalkLaws.{at_head, at_none}
use Rattle.tlv_reader.proofs.Cursor.walk.Goals as goal

pub returns-in_err-e : goal.returns-in_err-e
returns-in_err-e c = c.from_residual.ensures ∙ sym (ap ended (at_none c.args.left c.args.s.now c.args.self.at (sym c.head.ensures ∙ c.in_err-e.was)))

pub returns : goal.returns
returns c = c.walk_element.ensures ∙ sym (ap ended (at_head c.args.left c.args.s.now c.args.self.at (sym c.head.ensures ∙ c.in_ok-e.was)))
