use Rattle.script_lines.specs.Numbers.{float_at}
use borrow.Author.Rules.{rules}
use Rattle.script_lines.proofs.number.read_float.Goals as goal

pub returns : goal.returns
unfolding float_at
returns c = record { value = rw (← c.next_word-w.ensures.value, ← c.hex8.ensures) c.at_most.ensures.value; value_bound = search rules }
