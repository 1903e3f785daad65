use mathlib.Core.Path.{sym, ap, ◌∙◌}
use mathlib.Core.Bool.{Bool}
use Rattle.tlv_reader.specs.Octet.{pick}
use Rattle.node_schema.specs.Rows.{count_of_attributes}
use Rattle.server_selection.specs.Items.{span}
use Rattle.server_selection.proofs.items.span_of.Goals as goal

pub returns-then-is_concrete : goal.returns-then-is_concrete
unfolding span
returns-then-is_concrete c = ap (λ (b : Bool). pick b 1 (count_of_attributes c.args.w.now)) (sym c.if-is_concrete.true ∙ c.is_concrete.ensures)

pub returns : goal.returns
unfolding span
returns c = c.attribute_count.ensures ∙ ap (λ (b : Bool). pick b 1 (count_of_attributes c.args.w.now)) (sym c.if-is_concrete.false ∙ c.is_concrete.ensures)
