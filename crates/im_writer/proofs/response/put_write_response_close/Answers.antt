use native.Mathlib.Omega.{arith}
use lib.ListN.{length-append}
use Rattle.base_octets.proofs.StoreLaws.{then}
use Rattle.im_writer.specs.Message.{response_closing}
use Rattle.im_writer.proofs.response.put_write_response_close.Goals as goal

pub returns : goal.returns
unfolding response_closing
returns c =
    then c.put_end-p.ensures c.put_revision.ensures

pub put_end-p-requires : goal.put_end-p-requires
unfolding response_closing
put_end-p-requires c = omega (arith, simp length-append at c.requires)

pub put_revision-requires : goal.put_revision-requires
unfolding response_closing
put_revision-requires c = omega (arith, simp length-append at c.requires)
