use native.Mathlib.Omega.{arith}
use Rattle.base_octets.proofs.StoreLaws.{then}
use Rattle.im_request_writer.specs.Request.{read_closing}
use Rattle.im_request_writer.proofs.read.put_read_close.Goals as goal

pub returns-then-any : goal.returns-then-any
unfolding read_closing
returns-then-any c =
    rw c.if-any.true (then c.put_end-p.ensures c.put_revision.ensures)

pub returns : goal.returns
unfolding read_closing
returns c =
    rw c.if-any.false c.put_revision-2.ensures

pub put_end-p-requires : goal.put_end-p-requires
unfolding read_closing
put_end-p-requires c =
    omega (arith, rw c.if-any.true at c.requires)

pub put_revision-requires : goal.put_revision-requires
unfolding read_closing
put_revision-requires c =
    omega (arith, rw c.if-any.true at c.requires)

pub put_revision-requires-2 : goal.put_revision-requires-2
unfolding read_closing
put_revision-requires-2 c =
    omega (arith, rw c.if-any.false at c.requires)
