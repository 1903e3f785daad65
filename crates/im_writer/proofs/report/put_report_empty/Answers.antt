use native.Mathlib.Omega.{arith}
use lib.ListN.{length-append}
use Rattle.base_octets.proofs.StoreLaws.{then}
use Rattle.im_writer.specs.Spelling.{spelling, writer_tag}
use Rattle.im_writer.specs.Message.{report_members}
use Rattle.im_writer.proofs.report.put_report_empty.Goals as goal

pub returns : goal.returns
unfolding spelling report_members writer_tag
returns c =
    then c.put_open-p.ensures c.put_report_ending.ensures

pub put_open-p-requires : goal.put_open-p-requires
unfolding spelling report_members writer_tag
put_open-p-requires c = omega (arith, simp length-append at c.requires)

pub put_report_ending-requires : goal.put_report_ending-requires
unfolding spelling report_members writer_tag
put_report_ending-requires c = omega (arith, simp length-append at c.requires)
