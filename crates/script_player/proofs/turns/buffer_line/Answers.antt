use Rattle.script_player.specs.Turns.{buffer_at}
use Rattle.script_player.proofs.turns.buffer_line.Goals as goal

pub returns : goal.returns
unfolding buffer_at
returns c = rw (c.silent.ensures, c.is_done.ensures, ← c.read_number-n.ensures.value)
