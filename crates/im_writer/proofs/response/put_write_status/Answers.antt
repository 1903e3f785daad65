use native.Mathlib.Omega.{arith}
use lib.ListN.{length-append}
use Rattle.base_octets.proofs.StoreLaws.{then}
use Rattle.tlv_writer.specs.Element.{datum_octets}
use Rattle.im_writer.specs.Spelling.{spelling, writer_tag}
use Rattle.im_writer.specs.Block.{answer_tree}
use Rattle.im_writer.proofs.response.put_write_status.Goals as goal

pub returns : goal.returns
unfolding spelling datum_octets writer_tag answer_tree
returns c =
    then c.put_open-p.ensures c.put_answer.ensures

pub put_open-p-requires : goal.put_open-p-requires
unfolding spelling datum_octets writer_tag answer_tree
put_open-p-requires c = omega (arith, simp length-append at c.requires)

pub put_answer-requires : goal.put_answer-requires
unfolding spelling datum_octets writer_tag answer_tree
put_answer-requires c = omega (arith, simp length-append at c.requires)
