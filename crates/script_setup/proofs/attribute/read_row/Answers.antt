use Rattle.script_setup.specs.Attributes.{row_at, row_kept}
use Rattle.script_setup.proofs.attribute.read_row.Goals as goal

pub returns : goal.returns
unfolding row_at row_kept
returns c =
    let p = c.read_path-p.ensures in
    let r = c.read_marked-read.ensures.value in
    let w = c.read_marked-write.ensures.value in
    let n = c.read_flag-nullable.ensures.value in
    let l = c.read_limits-limits.ensures in
    record { value = rw (c.privilege.ensures.value, c.privilege-2.ensures.value, ← p, ← r, ← w, ← n, ← l.value); bytes_after = rw (← p, ← r, ← w, ← n) l.bytes_after }
