use mathlib.Core.Path.{◌≡◌, sym, ◌∙◌}
use mathlib.Core.Bool.{true, false}
use Rattle.node_schema.specs.Rows.{attribute_row, is_text}
use Rattle.server_values.specs.Values.{value_at}
use Rattle.server_values.proofs.value_at.Goals as goal

pub returns-then-is_text : goal.returns-then-is_text
unfolding value_at
returns-then-is_text c = let t : is_text (attribute_row c.args.w.now c.args.i) ≡ true = sym c.is_text.ensures ∙ c.if-is_text.true in
    rw t (c.value_of.ensures ∙ rw c.kind_of-kind.ensures)

pub returns : goal.returns
unfolding value_at
returns c = let t : is_text (attribute_row c.args.w.now c.args.i) ≡ false = sym c.is_text.ensures ∙ c.if-is_text.false in
    rw t (c.value_of-2.ensures ∙ rw c.kind_of-kind.ensures)
