use Rattle.node_kinds.specs.Float.{range_of}
use Rattle.node_kinds.proofs.float.range_of.Goals as goal

pub returns : goal.returns
unfolding range_of
returns c = cc
