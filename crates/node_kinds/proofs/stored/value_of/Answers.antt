use mir.ValLaws.{of_z-to_z}
use mir.Syntax.{w64}
use Rattle.node_kinds.specs.Stored.{value_from}
use Rattle.node_kinds.proofs.stored.value_of.Goals as goal

pub returns-then-null : goal.returns-then-null
unfolding value_from
returns-then-null c = rw c.if-null.true

pub returns-in-Boolean : goal.returns-in-Boolean
unfolding value_from
returns-in-Boolean c = rw (c.in-Boolean.is, c.if-null.false)

pub returns-in-Unsigned : goal.returns-in-Unsigned
unfolding value_from
returns-in-Unsigned c = rw (c.in-Unsigned.is, c.if-null.false)

pub returns-in-Signed : goal.returns-in-Signed
unfolding value_from
returns-in-Signed c = rw (c.signed_of.ensures, of_z-to_z w64 c.args.word c.ranges.word, c.in-Signed.is, c.if-null.false)

pub returns-in-Float : goal.returns-in-Float
unfolding value_from
returns-in-Float c = rw (c.in-Float.is, c.if-null.false)

pub returns-in-Text : goal.returns-in-Text
unfolding value_from
returns-in-Text c = rw (c.in-Text.is, c.if-null.false)
