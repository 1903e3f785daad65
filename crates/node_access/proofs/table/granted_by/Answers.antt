use borrow.Author.Rules.{rules}
use Rattle.node_access.proofs.SearchLaws.{up-begin, up_step, up_done}
use Rattle.node_access.proofs.table.granted_by.Goals as goal

pub loop-i-init : goal.loop-i-init
loop-i-init c = let a = c.args in (c.cluster_count-n.ensures, search rules, up-begin a.g a.e a.subject a.w.now)

pub loop-i-preserved : goal.loop-i-preserved
loop-i-preserved c = let a = c.args in let l = c.loop-i in (l.invariant.0, l.invariant.1, up_step a.g a.e a.subject a.w.now l.level l.i _ _ _ (search rules) l.invariant.2 c.cluster_endpoint-endpoint.ensures c.cluster_id-cluster.ensures c.raised.ensures)

pub returns : goal.returns
returns c = let a = c.args in let l = c.loop-i in up_done a.g a.e a.subject a.w.now l.level l.i (search rules) l.invariant.2
