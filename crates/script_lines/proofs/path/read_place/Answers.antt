use Rattle.script_lines.specs.Paths.{place_at}
use Rattle.script_lines.proofs.path.read_place.Goals as goal

pub returns : goal.returns
unfolding place_at
returns c = rw (c.read_number-cluster.ensures.value, c.read_number-endpoint.ensures.value)
