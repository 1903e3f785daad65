use native.Mathlib.Omega.{arith}
use lib.ListN.{length-append}
use Rattle.base_octets.proofs.StoreLaws.{then}
use Rattle.tlv_writer.specs.Element.{datum_octets}
use Rattle.im_writer.specs.Spelling.{spelling, writer_tag}
use Rattle.im_writer.specs.Message.{report_ending}
use Rattle.im_writer.proofs.report.put_report_ending.Goals as goal

pub returns-then-more : goal.returns-then-more
unfolding spelling datum_octets writer_tag report_ending
returns-then-more c =
    rw c.if-more.true (then c.put_boolean-p.ensures c.put_revision.ensures)

pub returns : goal.returns
unfolding spelling datum_octets writer_tag report_ending
returns c =
    rw c.if-more.false (then c.put_boolean-q.ensures c.put_revision-2.ensures)

pub put_boolean-p-requires : goal.put_boolean-p-requires
unfolding spelling datum_octets writer_tag report_ending
put_boolean-p-requires c =
    omega (arith, rw c.if-more.true at (simp length-append at c.requires))

pub put_revision-requires : goal.put_revision-requires
unfolding spelling datum_octets writer_tag report_ending
put_revision-requires c =
    omega (arith, rw c.if-more.true at (simp length-append at c.requires))

pub put_boolean-q-requires : goal.put_boolean-q-requires
unfolding spelling datum_octets writer_tag report_ending
put_boolean-q-requires c =
    omega (arith, rw c.if-more.false at (simp length-append at c.requires))

pub put_revision-requires-2 : goal.put_revision-requires-2
unfolding spelling datum_octets writer_tag report_ending
put_revision-requires-2 c =
    omega (arith, rw c.if-more.false at (simp length-append at c.requires))
