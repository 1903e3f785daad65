use Rattle.script_lines.specs.Paths.{path_at}
use Rattle.script_lines.proofs.path.read_path.Goals as goal

pub returns : goal.returns
unfolding path_at
returns c = rw (c.read_number-attribute.ensures.value, c.read_place-p.ensures)
