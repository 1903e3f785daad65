use mathlib.Core.Path.{refl}
use borrow.Author.Tests.{not-true, not-false}
use Rattle.script_answer.specs.Messages.{zeros}
use Rattle.script_cache.specs.Acts.{write_turn}
use Rattle.script_cache.proofs.write_line.Goals as goal

pub returns-then-not-v : goal.returns-then-not-v
unfolding zeros write_turn
returns-then-not-v c =
    let v = c.read_value-v in
    rw (← c.read_path-a.ensures, ← c.read_marked-version.ensures.value, ← v.ensures.value, not-true v.result.ok c.if-not-v.true) (record { says = refl; texts = refl; buffer = refl })

pub returns : goal.returns
unfolding zeros write_turn
returns c =
    let v = c.read_value-v in
    rw (← c.read_path-a.ensures, ← c.read_marked-version.ensures.value, ← v.ensures.value, not-false v.result.ok c.if-not-v.false, ← v.ensures.out_after) c.change.ensures
