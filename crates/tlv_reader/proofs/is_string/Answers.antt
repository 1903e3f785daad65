use borrow.Author.Tests.{lt-ltb, le-ltb}
use Rattle.tlv_reader.proofs.is_string.Goals as goal

pub returns-then-kind-lt12 : goal.returns-then-kind-lt12
returns-then-kind-lt12 c = simp (lt-ltb _ _ c.if-kind-lt12.true)

pub returns : goal.returns
returns c = simp (le-ltb _ _ c.if-kind-lt12.false)
