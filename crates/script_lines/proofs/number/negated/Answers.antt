use Rattle.script_lines.proofs.NumberLaws.{negated-zero, negated-some}
use native.Mathlib.Omega.{arith}
use borrow.Author.Rules.{rules}
use Rattle.script_lines.proofs.number.negated.Goals as goal

pub returns-then-m-eq0 : goal.returns-then-m-eq0
returns-then-m-eq0 c = record { value = negated-zero c.args.n c.if-m-eq0.true; value_bound = search rules }

pub returns : goal.returns
returns c = record { value = negated-some c.args.n c.if-m-eq0.false (omega arith); value_bound = search rules }
