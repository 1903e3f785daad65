use native.Mathlib.Omega.{arith}
use lib.ListN.{length-append}
use Rattle.base_octets.proofs.StoreLaws.{then}
use Rattle.tlv_writer.specs.Element.{datum_octets}
use Rattle.im_writer.specs.Spelling.{spelling, writer_tag}
use Rattle.im_writer.specs.Block.{data_block_tree}
use Rattle.im_writer.proofs.block.put_data_block.Goals as goal

pub returns : goal.returns
unfolding spelling datum_octets writer_tag data_block_tree
returns c =
    then c.put_open-p.ensures (then (then c.put_open-q.ensures (then c.put_unsigned-r.ensures c.put_data-s.ensures)) c.put_end.ensures)

pub put_open-p-requires : goal.put_open-p-requires
unfolding spelling datum_octets writer_tag data_block_tree
put_open-p-requires c = omega (arith, simp length-append at c.requires.1)

pub put_open-q-requires : goal.put_open-q-requires
unfolding spelling datum_octets writer_tag data_block_tree
put_open-q-requires c = omega (arith, simp length-append at c.requires.1)

pub put_unsigned-r-requires : goal.put_unsigned-r-requires
unfolding spelling datum_octets writer_tag data_block_tree
put_unsigned-r-requires c = omega (arith, simp length-append at c.requires.1)

pub put_data-s-requires : goal.put_data-s-requires
unfolding spelling datum_octets writer_tag data_block_tree
put_data-s-requires c =
    (c.requires.0, omega (arith, simp length-append at c.requires.1))

pub put_end-requires : goal.put_end-requires
unfolding spelling datum_octets writer_tag data_block_tree
put_end-requires c = omega (arith, simp length-append at c.requires.1)
