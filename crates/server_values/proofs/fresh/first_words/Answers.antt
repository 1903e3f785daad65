use borrow.Author.Rules.{rules}
use Rattle.base_bounds.specs.Bounds.{attribute_limit}
use Rattle.node_schema.specs.Rows.{attribute_row}
use Rattle.node_schema.proofs.RowLaws.{fill-begin}
use Rattle.server_values.specs.Fresh.{start_word}
use Rattle.server_values.proofs.FreshLaws.{filled_more, filled-whole}
use Rattle.server_values.proofs.fresh.first_words.Goals as goal

pub loop-i-init : goal.loop-i-init
loop-i-init c = (c.attribute_count-n.ensures, fill-begin 0 _ attribute_limit)

pub loop-i-preserved : goal.loop-i-preserved
loop-i-preserved c = let l = c.loop-i in (l.invariant.0, filled_more (λ k. start_word (attribute_row c.args.w.now k)) attribute_limit l.words l.i l.invariant.1 _ c.start_word.ensures (search rules))

pub returns : goal.returns
returns c = let l = c.loop-i in filled-whole (λ k. start_word (attribute_row c.args.w.now k)) attribute_limit l.words l.i l.invariant.1 _ (search rules) (search rules) _ l.invariant.0
