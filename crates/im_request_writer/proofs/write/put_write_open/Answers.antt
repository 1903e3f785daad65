use native.Mathlib.Omega.{arith}
use lib.ListN.{length-append}
use Rattle.base_octets.proofs.StoreLaws.{then}
use Rattle.tlv_writer.specs.Element.{datum_octets}
use Rattle.im_writer.specs.Spelling.{spelling, writer_tag}
use Rattle.im_request_writer.specs.Request.{write_opening}
use Rattle.im_request_writer.proofs.write.put_write_open.Goals as goal

pub returns : goal.returns
unfolding spelling datum_octets writer_tag write_opening
returns c =
    then c.put_open-p.ensures (then c.put_boolean-q.ensures (then c.put_boolean-r.ensures (then c.put_open-s.ensures c.put_open.ensures)))

pub put_open-p-requires : goal.put_open-p-requires
unfolding spelling datum_octets writer_tag write_opening
put_open-p-requires c = omega (arith, simp length-append at c.requires)

pub put_boolean-q-requires : goal.put_boolean-q-requires
unfolding spelling datum_octets writer_tag write_opening
put_boolean-q-requires c = omega (arith, simp length-append at c.requires)

pub put_boolean-r-requires : goal.put_boolean-r-requires
unfolding spelling datum_octets writer_tag write_opening
put_boolean-r-requires c = omega (arith, simp length-append at c.requires)

pub put_open-s-requires : goal.put_open-s-requires
unfolding spelling datum_octets writer_tag write_opening
put_open-s-requires c = omega (arith, simp length-append at c.requires)

pub put_open-requires : goal.put_open-requires
unfolding spelling datum_octets writer_tag write_opening
put_open-requires c = omega (arith, simp length-append at c.requires)
