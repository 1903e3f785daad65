-- `search` is asked for what the whole table says, and `serve` is passed what it answered.
use mathlib.Core.Path.{sym, ap, ◌∙◌}
use Rattle.node_access.specs.declared.table.Access.{Access}
use Rattle.node_access.proofs.SearchLaws.{whole-right, whole-grants}
use Rattle.server.proofs.receive.receive.Goals as goal

pub returns : goal.returns
returns c =
    let a = c.args in
    let e = c.search-access.ensures in
    let right = ap (λ (x : Access). x.right) e ∙ whole-right a.table.now in
    let grants = ap (λ (x : Access). x.grants) e ∙ whole-grants a.table.now a.subject a.w.now in
    rw (sym right, sym grants) c.serve.ensures
