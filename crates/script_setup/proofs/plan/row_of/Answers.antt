use Rattle.script_setup.specs.Schema.{row_of}
use native.Mathlib.Omega.{arith}
use borrow.Author.Rules.{rules}
use Rattle.script_setup.proofs.plan.row_of.Goals as goal

pub returns-in_default : goal.returns-in_default
unfolding row_of
returns-in_default c = record { value = rw (← c.find_cluster.ensures, c.in_default.is); upper_bound = search rules }

pub returns : goal.returns
unfolding row_of
returns c = record { value = rw (← c.find_cluster.ensures, c.in-Some.is) c.min.ensures; upper_bound = omega (arith, c.min.ensures) }
