use mathlib.Core.Path.{refl}
use native.Mathlib.Omega.{arith}
use Rattle.server_values.proofs.pages.length_in.Goals as goal

pub returns-then-factory : goal.returns-then-factory
returns-then-factory c = rw c.if-factory.true c.factory_length.ensures

pub returns-then-mark-eq0 : goal.returns-then-mark-eq0
returns-then-mark-eq0 c = rw c.if-factory.false (omega (arith, c.if-mark-eq0.true))

pub returns-else-mark-eq0 : goal.returns-else-mark-eq0
returns-else-mark-eq0 c = rw c.if-factory.false refl
