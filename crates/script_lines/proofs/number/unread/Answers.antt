use Rattle.script_lines.proofs.number.unread.Goals as goal

pub returns : goal.returns
returns c = rw c.failed.ensures
