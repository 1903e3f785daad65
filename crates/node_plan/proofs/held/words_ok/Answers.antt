use mathlib.Core.Path.{ap₂}
use mathlib.Core.Bool.{◌&&◌}
use Rattle.node_plan.specs.Held.{words_right}
use Rattle.node_plan.proofs.HeldLaws.{only, past-text}
use Rattle.node_plan.proofs.held.words_ok.Goals as goal

pub returns-then-code-lt-SIGNED : goal.returns-then-code-lt-SIGNED
unfolding words_right
returns-then-code-lt-SIGNED c =
    rw (only _ 1 c.requires.0 c.if-code-lt-SIGNED.true)
    (ap₂ ◌&&◌ c.unsigned_within.ensures c.unsigned_within-then-code-lt-SIGNED.ensures)

pub returns-then-code-lt-FLOAT : goal.returns-then-code-lt-FLOAT
unfolding words_right
returns-then-code-lt-FLOAT c =
    rw (only _ 2 c.if-code-lt-SIGNED.false c.if-code-lt-FLOAT.true)
    (ap₂ ◌&&◌ c.signed_ok.ensures c.signed_ok-then-code-lt-FLOAT.ensures)

pub returns-then-code-lt-TEXT : goal.returns-then-code-lt-TEXT
unfolding words_right
returns-then-code-lt-TEXT c = rw (only _ 3 c.if-code-lt-FLOAT.false c.if-code-lt-TEXT.true) c.floats_ok.ensures

pub returns : goal.returns
unfolding words_right
returns c = rw (past-text _ _ _ _ _ _ c.if-code-lt-TEXT.false c.requires.1)
