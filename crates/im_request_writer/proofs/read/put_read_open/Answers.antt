use native.Mathlib.Omega.{arith}
use lib.ListN.{length-append}
use Rattle.base_octets.proofs.StoreLaws.{then}
use Rattle.tlv_writer.specs.Element.{datum_octets}
use Rattle.im_writer.specs.Spelling.{spelling, writer_tag}
use Rattle.im_request_writer.specs.Request.{paths_tree, read_opening}
use Rattle.im_request_writer.proofs.read.put_read_open.Goals as goal

pub returns : goal.returns
unfolding spelling datum_octets writer_tag read_opening paths_tree
returns c =
    then c.put_open-p.ensures (then (then c.put_open-q.ensures (then c.put_wildcard-r.ensures c.put_end-s.ensures)) c.put_boolean.ensures)

pub put_open-p-requires : goal.put_open-p-requires
unfolding spelling datum_octets writer_tag read_opening paths_tree
put_open-p-requires c = omega (arith, simp length-append at c.requires)

pub put_open-q-requires : goal.put_open-q-requires
unfolding spelling datum_octets writer_tag read_opening paths_tree
put_open-q-requires c = omega (arith, simp length-append at c.requires)

pub put_wildcard-r-requires : goal.put_wildcard-r-requires
unfolding spelling datum_octets writer_tag read_opening paths_tree
put_wildcard-r-requires c = omega (arith, simp length-append at c.requires)

pub put_end-s-requires : goal.put_end-s-requires
unfolding spelling datum_octets writer_tag read_opening paths_tree
put_end-s-requires c = omega (arith, simp length-append at c.requires)

pub put_boolean-requires : goal.put_boolean-requires
unfolding spelling datum_octets writer_tag read_opening paths_tree
put_boolean-requires c = omega (arith, simp length-append at c.requires)
