use mathlib.Core.Path.{sym, ◌∙◌}
use Rattle.script_setup.specs.Setup.{subject_at}
use Rattle.script_setup.proofs.subject_line.Goals as goal

pub returns-then-not-is_done : goal.returns-then-not-is_done
unfolding subject_at
returns-then-not-is_done c =
    let n = c.read_number-n.ensures.value in
    let d = c.is_done in
    let no = sym d.ensures ∙ c.if-not-is_done.true in
    record { value = rw (← n, no); setup_after = rw (← n, no) }

pub returns : goal.returns
unfolding subject_at
returns c =
    let n = c.read_number-n.ensures.value in
    let d = c.is_done in
    let yes = sym d.ensures ∙ c.if-not-is_done.false in
    record { value = rw (← n, yes); setup_after = rw (← n, yes) }
