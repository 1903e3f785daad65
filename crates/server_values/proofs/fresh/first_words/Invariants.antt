use mathlib.Core.Path.{◌≡◌}
use Rattle.base_bounds.specs.Bounds.{attribute_limit}
use Rattle.node_schema.specs.Rows.{attribute_row, count_of_attributes, filled}
use Rattle.server_values.specs.Fresh.{start_word}
use Rattle.server_values.proofs.fresh.first_words.Given as goal

abbrev pub invariant-loop-i : goal.invariant-loop-i
invariant-loop-i l = (l.n ≡ count_of_attributes l.w) × (l.words ≡ filled 0 (λ k. start_word (attribute_row l.w k)) attribute_limit l.i)
