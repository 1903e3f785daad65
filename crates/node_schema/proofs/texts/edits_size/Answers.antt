use Rattle.std.proofs.Common.{arith}
use Rattle.node_schema.specs.Rows.{attribute_row, count_of_attributes, is_text}
use Rattle.node_schema.proofs.CheckLaws.{count-bound}
use Rattle.node_schema.proofs.texts.edits_size.Goals as goal

pub overflow_mul-result : goal.overflow_mul-result
overflow_mul-result c = omega (arith, c.text_count.ensures, count-bound (λ j. is_text (attribute_row c.args.w.now j)) (count_of_attributes c.args.w.now))
