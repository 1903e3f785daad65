use borrow.Author.Tests.{lt-ltb, le-ltb}
use Rattle.tlv_reader.specs.Head.{closed_at}
use Rattle.tlv_reader.proofs.closed.Goals as goal

pub returns-then-len-body : goal.returns-then-len-body
unfolding closed_at
returns-then-len-body c = simp (← c.is_string.ensures, c.if-is_string.true, lt-ltb _ _ c.if-len-body.true)

pub returns-then-is_string : goal.returns-then-is_string
unfolding closed_at
returns-then-is_string c = simp (← c.is_string.ensures, c.if-is_string.true, le-ltb _ _ c.if-len-body.false)

pub returns : goal.returns
unfolding closed_at
returns c = simp (← c.is_string.ensures, c.if-is_string.false)
