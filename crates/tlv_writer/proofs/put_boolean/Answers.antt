use native.Mathlib.Omega.{arith}
use Rattle.tlv_writer.proofs.Octets.{boolean-start, length-start, length-boolean}
use Rattle.tlv_writer.proofs.put_boolean.Goals as goal

pub put_head-requires : goal.put_head-requires
put_head-requires c =
    (omega arith, rw length-start (omega (arith, c.requires, length-boolean c.args.tag c.args.x)))

pub put_head-requires-else-x : goal.put_head-requires-else-x
put_head-requires-else-x c =
    (omega arith, rw length-start (omega (arith, c.requires, length-boolean c.args.tag c.args.x)))

pub returns-then-x : goal.returns-then-x
returns-then-x c = rw (c.if-x.true, boolean-start) c.put_head.ensures

pub returns-else-x : goal.returns-else-x
returns-else-x c = rw (c.if-x.false, boolean-start) c.put_head-else-x.ensures
