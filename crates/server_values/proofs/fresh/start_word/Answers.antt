use mathlib.Core.Bool.{true, false}
use mathlib.Core.Path.{◌≡◌, sym, ◌∙◌}
use Rattle.node_schema.specs.Rows.{attribute_row, is_text}
use Rattle.server_values.proofs.fresh.start_word.Goals as goal

pub returns-then-is_text : goal.returns-then-is_text
returns-then-is_text c =
    let a = c.args in
    let t : is_text (attribute_row a.w.now a.i) ≡ true = sym c.is_text.ensures ∙ c.if-is_text.true in
    rw t

pub returns : goal.returns
returns c =
    let a = c.args in
    let t : is_text (attribute_row a.w.now a.i) ≡ false = sym c.is_text.ensures ∙ c.if-is_text.false in
    rw t c.first_value.ensures
