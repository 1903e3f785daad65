use Rattle.std.proofs.Common.{◌≡◌, ℕ, sym, ◌∙◌, arith, rules}
use Rattle.node_schema.specs.Rows.{cluster_row}
use Rattle.node_schema.specs.Check.{changes as changes_of}
use Rattle.node_schema.proofs.CheckLaws.{rows-begin, rows-done, changes-same, changes-new}
use Rattle.node_schema.proofs.check.endpoint_changes.Goals as goal
use Rattle.node_schema.proofs.check.endpoint_changes.Goals.{then-e-last, else-e-last}

pub loop-i-init : goal.loop-i-init
loop-i-init c = (search rules, rw (rows-begin (λ k. (cluster_row c.args.w.now k).endpoint) c.args.n) (omega arith))

pub loop-i-preserved : goal.loop-i-preserved
loop-i-preserved c =
    let f : ℕ → ℕ = λ k. (cluster_row c.args.w.now k).endpoint in
    let n = c.args.n in
    let l = c.loop-i in
    let e : c.cluster_endpoint-e.result ≡ f l.i = c.cluster_endpoint-e.ensures in
    elim c.if-e-last.branch [
      | then-e-last b ↦ (omega arith, l.invariant.1 ∙ rw (changes-new f n l.i l.last (search rules) (λ q. b.if-e-last.true (e ∙ q)), b.changes-is, b.last-is, e) (omega arith))
      | else-e-last b ↦ (omega arith, l.invariant.1 ∙ rw (changes-same f n l.i l.last (search rules) (sym e ∙ b.if-e-last.false), b.changes-is, b.last-is))
    ]

pub returns : goal.returns
unfolding changes_of
returns c =
    let l = c.loop-i in
    sym (l.invariant.1 ∙ rw (rows-done (λ k. (cluster_row c.args.w.now k).endpoint) c.args.n l.i (omega arith)) (omega arith))
