use mathlib.Core.Path.{refl, sym}
use native.Mathlib.Omega.{arith}
use borrow.Author.Tests.{le-leb, lt-leb}
use Rattle.cache_entries.specs.Valid.{text_right}
use Rattle.cache_entries.proofs.valid.text_ok.Goals as goal

pub returns-then-len-gt-TEXT_SIZE : goal.returns-then-len-gt-TEXT_SIZE
unfolding text_right
returns-then-len-gt-TEXT_SIZE c = rw (sym c.size_of-len.ensures, lt-leb _ _ c.if-len-gt-TEXT_SIZE.true) refl

pub is_formed-requires : goal.is_formed-requires
is_formed-requires c = let p = c.requires in (omega (arith, c.if-len-gt-TEXT_SIZE.false, p.0, p.1.0), (omega (arith, p.1.0), (p.1.1.0, p.1.1.1)))

pub returns : goal.returns
unfolding text_right
returns c = let n = c.size_of-len.result in rw (sym c.size_of-len.ensures, le-leb n 200 c.if-len-gt-TEXT_SIZE.false) c.is_formed.ensures
