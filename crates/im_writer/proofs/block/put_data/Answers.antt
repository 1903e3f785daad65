use native.Mathlib.Omega.{arith}
use lib.ListN.{length-append}
use Rattle.base_octets.proofs.StoreLaws.{then}
use Rattle.tlv_writer.specs.Element.{datum_octets}
use Rattle.im_writer.specs.Spelling.{spelling, writer_tag}
use Rattle.im_writer.specs.Block.{data_members}
use Rattle.im_writer.proofs.SpellingLaws.{datum-back}
use Rattle.im_writer.proofs.block.put_data.Goals as goal

pub returns : goal.returns
unfolding spelling datum_octets writer_tag data_members
returns c =
    rw datum-back (then c.put_path-p.ensures (then c.put_value-q.ensures c.put_end.ensures))

pub put_path-p-requires : goal.put_path-p-requires
unfolding spelling datum_octets writer_tag data_members
put_path-p-requires c = omega (arith, simp length-append at c.requires.1)

pub put_value-q-requires : goal.put_value-q-requires
unfolding spelling datum_octets writer_tag data_members
put_value-q-requires c =
    (c.requires.0, omega (arith, rw datum-back at (simp length-append at c.requires.1)))

pub put_end-requires : goal.put_end-requires
unfolding spelling datum_octets writer_tag data_members
put_end-requires c = omega (arith, rw datum-back at (simp length-append at c.requires.1))
