use mathlib.Core.Path.{sym, ◌∙◌}
use borrow.Author.Tests.{eq-eqb, ne_eqb}
use Rattle.script_answer.proofs.message.newest.Goals as goal

pub returns-then-not-is_done : goal.returns-then-not-is_done
returns-then-not-is_done c = let d = c.is_done in rw (sym d.ensures ∙ c.if-not-is_done.true)

pub returns-then-m-eq0 : goal.returns-then-m-eq0
returns-then-m-eq0 c = let d = c.is_done in rw (sym d.ensures ∙ c.if-not-is_done.false, eq-eqb c.args.m.len 0 c.if-m-eq0.true)

pub returns : goal.returns
returns c = let d = c.is_done in rw (sym d.ensures ∙ c.if-not-is_done.false, ne_eqb c.args.m.len 0 c.if-m-eq0.false)
