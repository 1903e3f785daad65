use mathlib.Core.Path.{sym, ◌∙◌}
use Rattle.script_lines.specs.Numbers.{flag_at}
use borrow.Author.Rules.{rules}
use Rattle.script_lines.proofs.number.read_flag.Goals as goal

pub returns-then-is_byte : goal.returns-then-is_byte
unfolding flag_at
returns-then-is_byte c = record { value = rw (← c.next_word-w.ensures.value, sym c.is_byte.ensures ∙ c.if-is_byte.true); value_bound = search rules }

pub returns-then-is_byte-2 : goal.returns-then-is_byte-2
unfolding flag_at
returns-then-is_byte-2 c = record { value = rw (← c.next_word-w.ensures.value, sym c.is_byte.ensures ∙ c.if-is_byte.false, sym c.is_byte-2.ensures ∙ c.if-is_byte-2.true); value_bound = search rules }

pub returns : goal.returns
unfolding flag_at
returns c = record { value = rw (← c.next_word-w.ensures.value, sym c.is_byte.ensures ∙ c.if-is_byte.false, sym c.is_byte-2.ensures ∙ c.if-is_byte-2.false) c.unread.ensures; value_bound = rw c.unread.ensures (search rules) }
