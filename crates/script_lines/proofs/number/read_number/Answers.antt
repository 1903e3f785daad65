use Rattle.script_lines.specs.Numbers.{number_at}
use Rattle.script_lines.proofs.number.read_number.Goals as goal

pub returns : goal.returns
unfolding number_at
returns c = record { value = rw (← c.next_word-w.ensures.value, ← c.decimal.ensures) c.at_most.ensures.value; value_le_highest = c.at_most.ensures.value_le_highest }
