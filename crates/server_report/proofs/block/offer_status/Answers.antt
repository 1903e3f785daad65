use native.Mathlib.Omega.{arith}
use Rattle.im_writer.specs.Block.{block_tree}
use Rattle.server_report.proofs.OfferLaws.{offered-full, offered-fits}
use Rattle.server_report.proofs.block.offer_status.Goals as goal

pub returns-then-room-status_block_len : goal.returns-then-room-status_block_len
unfolding block_tree
returns-then-room-status_block_len c = offered-full (omega (arith, c.status_block_len.ensures, c.if-room-status_block_len.true))

pub put_status_block-requires : goal.put_status_block-requires
put_status_block-requires c = omega (arith, c.status_block_len.ensures, c.if-room-status_block_len.false, c.requires)

pub returns : goal.returns
unfolding block_tree
returns c = offered-fits (omega (arith, c.status_block_len.ensures, c.if-room-status_block_len.false)) c.put_status_block.ensures
