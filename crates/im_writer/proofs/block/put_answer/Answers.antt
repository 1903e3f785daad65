use native.Mathlib.Omega.{arith}
use lib.ListN.{length-append}
use Rattle.base_octets.proofs.StoreLaws.{then}
use Rattle.tlv_writer.specs.Element.{datum_octets}
use Rattle.im_writer.specs.Spelling.{spelling, writer_tag}
use Rattle.im_writer.specs.Block.{status_tree, answer_members}
use Rattle.im_writer.proofs.block.put_answer.Goals as goal

pub returns : goal.returns
unfolding spelling datum_octets writer_tag answer_members status_tree
returns c =
    then c.put_path-p.ensures (then (then c.put_open-q.ensures (then c.put_unsigned-r.ensures c.put_end-s.ensures)) c.put_end.ensures)

pub put_path-p-requires : goal.put_path-p-requires
unfolding spelling datum_octets writer_tag answer_members status_tree
put_path-p-requires c = omega (arith, simp length-append at c.requires)

pub put_open-q-requires : goal.put_open-q-requires
unfolding spelling datum_octets writer_tag answer_members status_tree
put_open-q-requires c = omega (arith, simp length-append at c.requires)

pub put_unsigned-r-requires : goal.put_unsigned-r-requires
unfolding spelling datum_octets writer_tag answer_members status_tree
put_unsigned-r-requires c = omega (arith, simp length-append at c.requires)

pub put_end-s-requires : goal.put_end-s-requires
unfolding spelling datum_octets writer_tag answer_members status_tree
put_end-s-requires c = omega (arith, simp length-append at c.requires)

pub put_end-requires : goal.put_end-requires
unfolding spelling datum_octets writer_tag answer_members status_tree
put_end-requires c = omega (arith, simp length-append at c.requires)
