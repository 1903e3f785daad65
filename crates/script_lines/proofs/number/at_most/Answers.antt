use mathlib.Core.Path.{◌∙◌}
use borrow.Author.Tests.{lt-ltb, le-ltb}
use Rattle.script_lines.proofs.NumberLaws.{most-unread}
use borrow.Author.Rules.{rules}
use Rattle.script_lines.proofs.number.at_most.Goals as goal

pub returns-in_default : goal.returns-in_default
returns-in_default c = let a = c.args in
    record { value = c.unread.ensures ∙ most-unread a.highest a.next a.d c.in_default.not-Some; value_le_highest = rw c.unread.ensures (search rules) }

pub returns-then-highest-n : goal.returns-then-highest-n
returns-then-highest-n c = record { value = rw (c.unread-then-highest-n.ensures, c.in-Some.is, lt-ltb _ _ c.if-highest-n.true); value_le_highest = rw c.unread-then-highest-n.ensures (search rules) }

pub returns : goal.returns
returns c = record { value = rw (c.in-Some.is, le-ltb _ _ c.if-highest-n.false); value_le_highest = search rules }
