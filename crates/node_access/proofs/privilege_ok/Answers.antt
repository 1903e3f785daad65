use borrow.Author.Tests.{le-leb, lt-leb}
use Rattle.node_access.specs.Access.{privilege_ok}
use Rattle.node_access.proofs.privilege_ok.Goals as goal

pub returns-then-privilege-lt-VIEW : goal.returns-then-privilege-lt-VIEW
unfolding privilege_ok
returns-then-privilege-lt-VIEW c = simp (lt-leb _ _ c.if-privilege-lt-VIEW.true)

pub returns : goal.returns
unfolding privilege_ok
returns c = simp (le-leb _ _ c.if-privilege-lt-VIEW.false)
