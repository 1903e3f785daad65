use borrow.Author.Tests.{lt-ltb, le-ltb}
use Rattle.base_octets.proofs.StoreLaws.{then}
use Rattle.script_answer.specs.Text.{decimal_text}
use Rattle.script_answer.proofs.text.put_decimal.Goals as goal

pub returns-then-n-lt10 : goal.returns-then-n-lt10
unfolding decimal_text
returns-then-n-lt10 c = simp (lt-ltb _ _ c.if-n-lt10.true) (rw (← c.digit.ensures) c.put1.ensures)

pub returns-then-n-lt100 : goal.returns-then-n-lt100
unfolding decimal_text
returns-then-n-lt100 c =
    simp (le-ltb _ _ c.if-n-lt10.false, lt-ltb _ _ c.if-n-lt100.true) (rw (← c.digit-then-n-lt100.ensures, ← c.digit-then-n-lt100-2.ensures) c.put2.ensures)

pub returns : goal.returns
unfolding decimal_text
returns c =
    simp (le-ltb _ _ c.if-n-lt10.false, le-ltb _ _ c.if-n-lt100.false) (rw (← c.digit-2.ensures, ← c.digit-3.ensures, ← c.digit-4.ensures) (then c.put1-at.ensures c.put2-2.ensures))
