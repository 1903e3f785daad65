use mathlib.Core.Path.{◌∙◌}
use native.Mathlib.Omega.{arith}
use Rattle.node_kinds.specs.Stored.{word_of}
use Rattle.node_kinds.proofs.SignedLaws.{signed_back}
use Rattle.node_kinds.proofs.stored.word_of.Goals as goal

pub returns-in-Null : goal.returns-in-Null
unfolding word_of
returns-in-Null c = rw c.in-Null.is

pub returns-then-b : goal.returns-then-b
unfolding word_of
returns-then-b c = rw (c.in-Boolean.is, c.if-b.true)

pub returns-else-b : goal.returns-else-b
unfolding word_of
returns-else-b c = rw (c.in-Boolean.is, c.if-b.false)

pub returns-in-Unsigned : goal.returns-in-Unsigned
unfolding word_of
returns-in-Unsigned c = rw c.in-Unsigned.is

pub returns-in-Signed : goal.returns-in-Signed
unfolding word_of
returns-in-Signed c =
    let g = c.in-Signed in
    c.bits_of.ensures ∙ rw (g.is, signed_back g.z (omega arith))

pub returns-in-Float : goal.returns-in-Float
unfolding word_of
returns-in-Float c = rw c.in-Float.is

pub returns-in-Text : goal.returns-in-Text
unfolding word_of
returns-in-Text c = rw c.in-Text.is

pub returns-in-Other : goal.returns-in-Other
unfolding word_of
returns-in-Other c = rw c.in-Other.is
