use native.Mathlib.Omega.{arith}
use Rattle.server_values.proofs.pages.start_in.Goals as goal

pub returns-then-factory : goal.returns-then-factory
returns-then-factory c = rw c.if-factory.true c.factory_start.ensures

pub place_of-requires : goal.place_of-requires
place_of-requires c = omega (arith, c.requires)

pub returns : goal.returns
returns c = rw c.if-factory.false c.place_of.ensures
