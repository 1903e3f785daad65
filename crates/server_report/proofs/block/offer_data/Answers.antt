use mathlib.Core.Path.{sym, ◌∙◌}
use native.Mathlib.Omega.{arith}
use borrow.Author.Tests.{leb-true, leb-false}
use Rattle.im_writer.specs.Block.{block_tree}
use Rattle.server_report.proofs.OfferLaws.{offered-full, offered-fits}
use Rattle.server_report.proofs.block.offer_data.Goals as goal

pub returns-then-not-data_fits : goal.returns-then-not-data_fits
unfolding block_tree
returns-then-not-data_fits c = offered-full (leb-false _ _ (sym c.data_fits.ensures ∙ c.if-not-data_fits.true))

pub put_data_block-requires : goal.put_data_block-requires
put_data_block-requires c =
    (c.requires.0, omega (arith, leb-true _ c.args.room (sym c.data_fits.ensures ∙ c.if-not-data_fits.false), c.requires.1))

pub returns : goal.returns
unfolding block_tree
returns c =
    offered-fits (leb-true _ _ (sym c.data_fits.ensures ∙ c.if-not-data_fits.false))
    c.put_data_block.ensures
