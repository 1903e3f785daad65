use native.Mathlib.Omega.{arith}
use lib.ListN.{length-append}
use Rattle.base_octets.proofs.StoreLaws.{then}
use Rattle.im_writer.specs.Message.{response_opening}
use Rattle.im_writer.proofs.response.put_write_response_open.Goals as goal

pub returns : goal.returns
unfolding response_opening
returns c =
    then c.put_open-p.ensures c.put_open.ensures

pub put_open-p-requires : goal.put_open-p-requires
unfolding response_opening
put_open-p-requires c = omega (arith, simp length-append at c.requires)

pub put_open-requires : goal.put_open-requires
unfolding response_opening
put_open-requires c = omega (arith, simp length-append at c.requires)
