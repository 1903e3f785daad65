use mathlib.Core.Path.{◌≡◌, sym, ◌∙◌}
use mathlib.Core.Bool.{true, false}
use Rattle.node_schema.specs.Rows.{attribute_row, is_text}
use Rattle.server_values.specs.Values.{text_at}
use Rattle.server_values.proofs.text_at.Goals as goal

pub returns-then-not-is_text : goal.returns-then-not-is_text
unfolding text_at
returns-then-not-is_text c =
    let a = c.args in
    let t : is_text (attribute_row a.w.now a.i) ≡ false = sym c.is_text.ensures ∙ c.if-not-is_text.true in
    rw t

pub returns : goal.returns
unfolding text_at
returns c =
    let a = c.args in
    let t : is_text (attribute_row a.w.now a.i) ≡ true = sym c.is_text.ensures ∙ c.if-not-is_text.false in
    rw t (c.rank_text.ensures ∙ rw (c.mark_of.ensures, c.first_value-rank.ensures))
