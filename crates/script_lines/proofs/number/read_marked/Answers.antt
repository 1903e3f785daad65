use mathlib.Core.Path.{sym, ◌∙◌}
use Rattle.script_lines.specs.Numbers.{marked_at, number_at}
use borrow.Author.Rules.{rules}
use Rattle.script_lines.proofs.number.read_marked.Goals as goal

pub returns-then-is_byte : goal.returns-then-is_byte
unfolding marked_at
returns-then-is_byte c = record { value = rw (← c.next_word-w.ensures.value, sym c.is_byte.ensures ∙ c.if-is_byte.true); value_le_highest = search rules }

pub returns : goal.returns
unfolding marked_at number_at
returns c = record { value = rw (c.read_number-n.ensures.value, ← c.next_word-w.ensures.value, sym c.is_byte.ensures ∙ c.if-is_byte.false); value_le_highest = search rules }
