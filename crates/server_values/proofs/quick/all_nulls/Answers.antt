use mathlib.Core.Path.{refl, sym, ◌∙◌}
use borrow.Author.Rules.{rules}
use Rattle.node_schema.specs.Check.{every}
use Rattle.node_schema.proofs.CheckLaws.{every_more, every-fails, every-done}
use Rattle.server_values.specs.Quick.{null_at}
use Rattle.server_values.proofs.QuickLaws.{null-there, null-none}
use Rattle.server_values.proofs.quick.all_nulls.Goals as goal
use Rattle.server_values.proofs.quick.all_nulls.Goals.{then-nulls-i+else-not-null_ok, else-nulls-i}

pub loop-i-init : goal.loop-i-init
unfolding every
loop-i-init c = refl

pub returns-then-not-null_ok : goal.returns-then-not-null_ok
returns-then-not-null_ok c =
    let a = c.args in
    let l = c.loop-i in
    every-fails (null_at a.w.now a.words.now a.nulls.now) _ l.i (search rules)
    (sym (null-there a.w.now a.words.now a.nulls.now l.i c.if-nulls-i.true) ∙ sym c.null_ok.ensures ∙ c.if-not-null_ok.true)

pub loop-i-preserved : goal.loop-i-preserved
loop-i-preserved c =
    let a = c.args in
    let l = c.loop-i in
    let p = null_at a.w.now a.words.now a.nulls.now in
    elim c.if-nulls-i.branch [
      | then-nulls-i+else-not-null_ok b ↦ every_more p l.i l.invariant (sym (null-there a.w.now a.words.now a.nulls.now l.i b.if-nulls-i.true) ∙ sym b.null_ok.ensures ∙ b.if-not-null_ok.false)
      | else-nulls-i b ↦ every_more p l.i l.invariant (null-none a.w.now a.words.now a.nulls.now l.i b.if-nulls-i.false)
    ]

pub returns : goal.returns
returns c = every-done _ _ _ (search rules) (search rules) c.loop-i.invariant
