use mathlib.Core.Path.{sym, ◌∙◌}
use borrow.Author.Tests.{eqb-false}
use lib.Dec.{eqb}
use Rattle.node_schema.specs.Layout.{text_kind}
use Rattle.node_schema.specs.Rows.{attribute_row}
use Rattle.node_plan.proofs.HeldLaws.{present, present-boolean}
use Rattle.node_plan.proofs.held.limits_hold.Goals as goal

pub returns-then-code-lt-UNSIGNED : goal.returns-then-code-lt-UNSIGNED
returns-then-code-lt-UNSIGNED c =
    let a = c.args in
    present-boolean (attribute_row a.w.now a.i) (eqb (attribute_row a.w.now a.i).nullable 1) a.word _ _ c.kind_code-code.ensures c.first_value-first.ensures c.if-code-lt-UNSIGNED.true

pub words_ok-requires : goal.words_ok-requires
words_ok-requires c =
    (c.if-code-lt-UNSIGNED.false, λ q. eqb-false _ text_kind c.requires.1 (sym c.kind_code-code.ensures ∙ q))

pub returns : goal.returns
returns c =
    let a = c.args in
    present (attribute_row a.w.now a.i) _ _ _ _ _ _ _ c.kind_code-code.ensures c.lowest-low.ensures
    c.highest-high.ensures c.first_value-first.ensures c.words_ok.ensures
