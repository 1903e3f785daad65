use Rattle.script_answer.proofs.silently.Goals as goal

pub returns-else-ok : goal.returns-else-ok
returns-else-ok c = rw c.if-ok.false
