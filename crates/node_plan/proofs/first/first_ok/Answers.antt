use Rattle.std.proofs.Common.{◌≡◌, sym, ◌∙◌, arith}
use Rattle.node_schema.specs.Rows.{attribute_row}
use Rattle.node_plan.specs.Check.{number_right}
use Rattle.node_plan.proofs.KindLaws.{other-code}
use Rattle.node_plan.proofs.first.first_ok.Goals as goal

pub returns-in-1 : goal.returns-in-1
unfolding number_right
returns-in-1 c = let a = attribute_row c.args.w.now c.args.i in
    let e : a.kind ≡ 1 = sym c.kind_code-code.ensures ∙ c.in-1.is in
    rw (e, ← c.lowest-low.ensures, ← c.highest-high.ensures, ← c.first_value-first.ensures) c.unsigned_within.ensures

pub returns-in-2 : goal.returns-in-2
unfolding number_right
returns-in-2 c = let a = attribute_row c.args.w.now c.args.i in
    let e : a.kind ≡ 2 = sym c.kind_code-code.ensures ∙ c.in-2.is in
    rw (e, ← c.lowest-low.ensures, ← c.highest-high.ensures, ← c.first_value-first.ensures) c.signed_ok.ensures

pub returns-in-3 : goal.returns-in-3
unfolding number_right
returns-in-3 c = let a = attribute_row c.args.w.now c.args.i in
    let e : a.kind ≡ 3 = sym c.kind_code-code.ensures ∙ c.in-3.is in
    rw (e, ← c.lowest-low.ensures, ← c.highest-high.ensures, ← c.first_value-first.ensures) c.float_ok.ensures

pub returns-in-4 : goal.returns-in-4
unfolding number_right
returns-in-4 c = let a = attribute_row c.args.w.now c.args.i in
    let e : a.kind ≡ 4 = sym c.kind_code-code.ensures ∙ c.in-4.is in
    rw e

pub returns-in_default : goal.returns-in_default
unfolding number_right
returns-in_default c =
    rw (other-code _ _ _ _ _ (attribute_row c.args.w.now c.args.i).kind (omega arith) (omega arith) (omega arith) (omega arith), ← c.first_value-first.ensures)
