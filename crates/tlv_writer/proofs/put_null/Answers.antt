use native.Mathlib.Omega.{arith}
use Rattle.tlv_writer.proofs.Octets.{null-start, length-start, length-null}
use Rattle.tlv_writer.proofs.put_null.Goals as goal

pub put_head-requires : goal.put_head-requires
put_head-requires c =
    (omega arith, rw length-start (omega (arith, c.requires, length-null c.args.tag)))

pub returns : goal.returns
returns c = rw null-start c.put_head.ensures
