use native.Mathlib.Omega.{arith}
use lib.ListN.{length-append}
use Rattle.base_octets.proofs.StoreLaws.{then}
use Rattle.tlv_writer.specs.Element.{datum_octets}
use Rattle.im_writer.specs.Spelling.{spelling, writer_tag}
use Rattle.im_writer.specs.Block.{status_block_tree}
use Rattle.im_writer.proofs.block.put_status_block.Goals as goal

pub returns : goal.returns
unfolding spelling datum_octets writer_tag status_block_tree
returns c =
    then c.put_open-p.ensures (then (then c.put_open-q.ensures c.put_answer-r.ensures) c.put_end.ensures)

pub put_open-p-requires : goal.put_open-p-requires
unfolding spelling datum_octets writer_tag status_block_tree
put_open-p-requires c = omega (arith, simp length-append at c.requires)

pub put_open-q-requires : goal.put_open-q-requires
unfolding spelling datum_octets writer_tag status_block_tree
put_open-q-requires c = omega (arith, simp length-append at c.requires)

pub put_answer-r-requires : goal.put_answer-r-requires
unfolding spelling datum_octets writer_tag status_block_tree
put_answer-r-requires c = omega (arith, simp length-append at c.requires)

pub put_end-requires : goal.put_end-requires
unfolding spelling datum_octets writer_tag status_block_tree
put_end-requires c = omega (arith, simp length-append at c.requires)
