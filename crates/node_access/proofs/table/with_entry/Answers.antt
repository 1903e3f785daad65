use mathlib.Core.Path.{sym, ◌∙◌}
use Rattle.node_access.proofs.SearchLaws.{with_none, with-right}
use Rattle.node_access.proofs.table.with_entry.Goals as goal

pub returns-then-not-privilege_ok : goal.returns-then-not-privilege_ok
returns-then-not-privilege_ok c = let a = c.args in with_none a.a a.e a.subject a.w.now _ c.granted_by-grants.ensures (sym c.privilege_ok.ensures ∙ c.if-not-privilege_ok.true)

pub returns : goal.returns
returns c = let a = c.args in with-right a.a a.e a.subject a.w.now _ c.granted_by-grants.ensures (sym c.privilege_ok.ensures ∙ c.if-not-privilege_ok.false)
