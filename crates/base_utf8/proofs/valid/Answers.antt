use mathlib.Core.Path.{sym, ◌∙◌}
use native.Mathlib.Omega.{arith}
use borrow.Author.Tests.{lt-ltb}
use Rattle.base_utf8.proofs.Below.{ascii-formed}
use Rattle.base_utf8.proofs.valid.Goals as goal

pub returns-then-m-lt128 : goal.returns-then-m-lt128
returns-then-m-lt128 c = sym (ascii-formed _ (sym (c.greatest-m.ensures 0x80 (omega arith)) ∙ lt-ltb _ _ c.if-m-lt128.true))

pub up_to_two-requires : goal.up_to_two-requires
up_to_two-requires c =
    (omega arith, sym (c.greatest-m.ensures 0xE0 (omega arith)) ∙ lt-ltb _ _ c.if-m-lt224.true)

pub up_to_three-requires : goal.up_to_three-requires
up_to_three-requires c =
    (omega arith, sym (c.greatest-m.ensures 0xF0 (omega arith)) ∙ lt-ltb _ _ c.if-m-lt240.true)
