use Rattle.script_player.specs.Turns.{used_at}
use Rattle.script_player.proofs.turns.used_line.Goals as goal

pub returns : goal.returns
unfolding used_at
returns c = rw (c.silent.ensures, c.is_done.ensures, c.used_up-cache.ensures, ← c.read_number-n.ensures.value)
