use native.Mathlib.Omega.{arith}
use Rattle.node_kinds.specs.Stored.{next_version}
use Rattle.node_kinds.proofs.stored.next_version.Goals as goal

pub returns-then-v-eq-VERSIONS : goal.returns-then-v-eq-VERSIONS
unfolding next_version
returns-then-v-eq-VERSIONS c = omega arith

pub returns-else-v-eq-VERSIONS : goal.returns-else-v-eq-VERSIONS
unfolding next_version
returns-else-v-eq-VERSIONS c = omega arith
