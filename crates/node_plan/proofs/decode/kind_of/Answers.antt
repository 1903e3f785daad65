use Rattle.std.proofs.Common.{sym, ap₂, ◌∙◌, arith}
use Rattle.node_kinds.specs.declared.Kind.TheVariants.{Signed}
use Rattle.node_schema.specs.Rows.{attribute_row}
use Rattle.node_plan.proofs.KindLaws.{kind-unsigned, kind-signed, kind-float, kind-text, kind-boolean, signed-again}
use Rattle.node_plan.proofs.decode.kind_of.Goals as goal

pub returns-in-1 : goal.returns-in-1
returns-in-1 c = let a = attribute_row c.args.w.now c.args.i in
    cc (kind-unsigned a (sym c.kind_code-code.ensures ∙ c.in-1.is))

pub returns-in-2 : goal.returns-in-2
returns-in-2 c = let a = attribute_row c.args.w.now c.args.i in
    ap₂ Signed (signed-again _ _ _ c.lowest-low.type_inv c.signed_of.ensures c.lowest-low.ensures) (signed-again _ _ _ c.highest-high.type_inv c.signed_of-in-2.ensures c.highest-high.ensures)
    ∙ sym (kind-signed a (sym c.kind_code-code.ensures ∙ c.in-2.is))

pub returns-in-3 : goal.returns-in-3
returns-in-3 c = let a = attribute_row c.args.w.now c.args.i in
    cc (kind-float a (sym c.kind_code-code.ensures ∙ c.in-3.is))

pub returns-in-4 : goal.returns-in-4
returns-in-4 c = let a = attribute_row c.args.w.now c.args.i in
    cc (kind-text a (sym c.kind_code-code.ensures ∙ c.in-4.is))

pub returns-in_default : goal.returns-in_default
returns-in_default c =
    sym (kind-boolean (attribute_row c.args.w.now c.args.i) (omega arith) (omega arith) (omega arith) (omega arith))
