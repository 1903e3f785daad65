use mathlib.Core.Path.{sym}
use Rattle.node_kinds.proofs.FloatLaws.{finite-is}
use Rattle.node_kinds.proofs.float.finite_bits.Goals as goal

pub returns : goal.returns
returns c = sym (finite-is c.args.n)
