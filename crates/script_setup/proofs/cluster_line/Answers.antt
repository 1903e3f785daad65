use mathlib.Core.Path.{sym, ◌∙◌}
use Rattle.script_setup.specs.Setup.{cluster_read, cluster_line}
use Rattle.script_setup.proofs.cluster_line.Goals as goal

pub returns-then-not-is_done : goal.returns-then-not-is_done
unfolding cluster_read cluster_line
returns-then-not-is_done c =
    let p = c.read_place-p.ensures in
    let v = c.read_number-version.ensures.value in
    let d = c.is_done in
    let no = sym d.ensures ∙ c.if-not-is_done.true in
    record { value = rw (← p, ← v, no); setup_after = rw (← p, ← v, no) }

pub returns : goal.returns
unfolding cluster_read cluster_line
returns c =
    let p = c.read_place-p.ensures in
    let v = c.read_number-version.ensures.value in
    let d = c.is_done in
    let yes = sym d.ensures ∙ c.if-not-is_done.false in
    record { value = rw (← p, ← v, yes); setup_after = rw (← p, ← v, yes) c.add_cluster.ensures }
