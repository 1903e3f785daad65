use native.Mathlib.Omega.{arith}
use lib.ListN.{length-append}
use Rattle.base_octets.proofs.StoreLaws.{then}
use Rattle.tlv_writer.specs.Element.{datum_octets}
use Rattle.im_writer.specs.Spelling.{spelling, writer_tag}
use Rattle.im_request_writer.specs.Request.{filter_tree}
use Rattle.im_request_writer.proofs.read.put_filter.Goals as goal

pub returns : goal.returns
unfolding spelling datum_octets writer_tag filter_tree
returns c =
    then c.put_open-p.ensures (then c.put_cluster-q.ensures (then c.put_unsigned-r.ensures c.put_end.ensures))

pub put_open-p-requires : goal.put_open-p-requires
unfolding spelling datum_octets writer_tag filter_tree
put_open-p-requires c = omega (arith, simp length-append at c.requires)

pub put_cluster-q-requires : goal.put_cluster-q-requires
unfolding spelling datum_octets writer_tag filter_tree
put_cluster-q-requires c = omega (arith, simp length-append at c.requires)

pub put_unsigned-r-requires : goal.put_unsigned-r-requires
unfolding spelling datum_octets writer_tag filter_tree
put_unsigned-r-requires c = omega (arith, simp length-append at c.requires)

pub put_end-requires : goal.put_end-requires
unfolding spelling datum_octets writer_tag filter_tree
put_end-requires c = omega (arith, simp length-append at c.requires)
