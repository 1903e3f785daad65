use native.Mathlib.Omega.{arith}
use lib.ListN.{length-append}
use Rattle.base_octets.proofs.StoreLaws.{then}
use Rattle.tlv_writer.specs.Element.{datum_octets}
use Rattle.im_writer.specs.Spelling.{spelling, writer_tag}
use Rattle.im_writer.specs.Message.{status_members}
use Rattle.im_writer.proofs.response.put_status_response.Goals as goal

pub returns : goal.returns
unfolding spelling datum_octets writer_tag status_members
returns c =
    then c.put_open-p.ensures (then c.put_unsigned-q.ensures c.put_revision.ensures)

pub put_open-p-requires : goal.put_open-p-requires
unfolding spelling datum_octets writer_tag status_members
put_open-p-requires c = omega (arith, simp length-append at c.requires)

pub put_unsigned-q-requires : goal.put_unsigned-q-requires
unfolding spelling datum_octets writer_tag status_members
put_unsigned-q-requires c = omega (arith, simp length-append at c.requires)

pub put_revision-requires : goal.put_revision-requires
unfolding spelling datum_octets writer_tag status_members
put_revision-requires c = omega (arith, simp length-append at c.requires)
