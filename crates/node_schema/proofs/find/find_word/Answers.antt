use Rattle.std.proofs.Common.{rules, eq-eqb, ne_eqb}
use Rattle.node_schema.proofs.SearchLaws.{begin, hit, miss, done}
use Rattle.node_schema.proofs.find.find_word.Goals as goal

pub loop-i-init : goal.loop-i-init
loop-i-init c = begin _ _

pub returns-then-w-from : goal.returns-then-w-from
returns-then-w-from c = hit _ _ _ (search rules) c.loop-i.invariant (eq-eqb _ _ c.if-w-from.true)

pub loop-i-preserved : goal.loop-i-preserved
loop-i-preserved c = miss _ _ _ (search rules) c.loop-i.invariant (ne_eqb _ _ c.if-w-from.false)

pub returns : goal.returns
returns c = done _ _ _ (search rules) c.loop-i.invariant
