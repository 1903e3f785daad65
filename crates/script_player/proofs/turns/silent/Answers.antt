use Rattle.script_player.proofs.turns.silent.Goals as goal

pub returns : goal.returns
returns c = rw c.silently.ensures
