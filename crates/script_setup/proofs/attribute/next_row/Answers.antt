use native.Mathlib.Omega.{arith}
use Rattle.script_setup.proofs.attribute.next_row.Goals as goal

pub returns-then-n : goal.returns-then-n
returns-then-n c = record { value = omega arith; setup_after = rw c.count_up.ensures; upper_bound = omega arith }

pub returns : goal.returns
returns c = record { value = omega arith; setup_after = rw c.count_up.ensures; upper_bound = omega arith }
