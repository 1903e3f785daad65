use mathlib.Core.Path.{sym, ap}
use Rattle.node_access.specs.declared.table.Access.{Access}
use Rattle.server.proofs.receive.receive_in.Goals as goal

pub returns : goal.returns
returns c = let e = c.search_in-access.ensures in rw (sym (ap (λ (a : Access). a.right) e), sym (ap (λ (a : Access). a.grants) e)) c.serve.ensures
