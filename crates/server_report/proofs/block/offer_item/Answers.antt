use mathlib.Core.Path.{refl}
use Rattle.server_report.specs.Offer.{OfferedIf}
use Rattle.server_report.specs.Blocks.{block_of}
use Rattle.server_report.proofs.block.offer_item.Goals as goal

pub offer_value-requires : goal.offer_value-requires
offer_value-requires c = (c.requires.0, (c.requires.1.0 _ c.in-Value.is, c.requires.1.1))

pub returns-in-Value : goal.returns-in-Value
unfolding OfferedIf block_of
returns-in-Value c = rw c.in-Value.is c.offer_value.ensures

pub returns-in-Status : goal.returns-in-Status
unfolding OfferedIf block_of
returns-in-Status c = rw c.in-Status.is c.offer_status.ensures

pub returns-in-Nothing : goal.returns-in-Nothing
unfolding OfferedIf block_of
returns-in-Nothing c = rw c.in-Nothing.is (record { content = refl; place = refl })
