use native.Mathlib.Omega.{arith}
use Rattle.base_octets.proofs.StoreLaws.{same_length as kept-length}
use Rattle.tlv_writer.proofs.Octets.{length-start, length-head, numbered}
use Rattle.tlv_writer.proofs.put_numbered.Goals as goal

pub put_head-p-requires : goal.put_head-p-requires
put_head-p-requires c =
    let a = c.args in
    (c.requires.0, rw length-start (omega (arith, c.requires.1.1, length-head a.tag a.kind a.v)))

pub put_number-requires : goal.put_number-requires
put_number-requires c =
    let a = c.args in
    let s = c.put_head-p.ensures in
    omega (arith, c.requires.1, length-head a.tag a.kind a.v, rw length-start at s.place, kept-length s)

pub returns : goal.returns
returns c =
    let a = c.args in
    numbered a.tag a.kind a.v c.requires.1.0 c.put_head-p.ensures c.put_number.ensures
