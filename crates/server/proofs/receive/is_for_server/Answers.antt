use borrow.Author.Tests.{eq-eqb, ne_eqb}
use Rattle.server.specs.Receive.{for_server}
use Rattle.server.proofs.receive.is_for_server.Goals as goal

pub returns-then-edition : goal.returns-then-edition
unfolding for_server
returns-then-edition c = rw (ne_eqb _ _ c.if-edition.true)

pub returns : goal.returns
unfolding for_server
returns c = rw (eq-eqb _ _ c.if-edition.false) c.is_taken.ensures
