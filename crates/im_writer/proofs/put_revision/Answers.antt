use native.Mathlib.Omega.{arith}
use lib.ListN.{length-append}
use Rattle.base_octets.proofs.StoreLaws.{then}
use Rattle.tlv_writer.specs.Element.{datum_octets}
use Rattle.im_writer.specs.Spelling.{spelling, writer_tag}
use Rattle.im_writer.specs.Message.{revision}
use Rattle.im_writer.proofs.put_revision.Goals as goal

pub returns : goal.returns
unfolding spelling datum_octets writer_tag revision
returns c =
    then c.put_unsigned-p.ensures c.put_end.ensures

pub put_unsigned-p-requires : goal.put_unsigned-p-requires
unfolding spelling datum_octets writer_tag revision
put_unsigned-p-requires c = omega (arith, simp length-append at c.requires)

pub put_end-requires : goal.put_end-requires
unfolding spelling datum_octets writer_tag revision
put_end-requires c = omega (arith, simp length-append at c.requires)
