use native.Mathlib.Omega.{arith}
use lib.ListN.{length-append}
use Rattle.base_octets.proofs.StoreLaws.{then}
use Rattle.im_writer.specs.Message.{report_closing}
use Rattle.im_writer.proofs.report.put_report_close.Goals as goal

pub returns : goal.returns
unfolding report_closing
returns c =
    then c.put_end-p.ensures c.put_report_ending.ensures

pub put_end-p-requires : goal.put_end-p-requires
unfolding report_closing
put_end-p-requires c = omega (arith, simp length-append at c.requires)

pub put_report_ending-requires : goal.put_report_ending-requires
unfolding report_closing
put_report_ending-requires c = omega (arith, simp length-append at c.requires)
