use native.Mathlib.Omega.{arith}
use Rattle.tlv_writer.proofs.Octets.{open-start, open-bare, length-start, length-open}
use Rattle.tlv_writer.proofs.put_open.Goals as goal

pub put_head-requires : goal.put_head-requires
put_head-requires c =
    let e = open-bare c.args.kind c.requires.0 c.requires.1.0 in
    (omega (arith, c.requires), rw length-start (omega (arith, c.requires, length-open c.args.tag c.args.kind e)))

pub returns : goal.returns
returns c =
    let e = open-bare c.args.kind c.requires.0 c.requires.1.0 in
    rw (open-start c.args.tag c.args.kind e) c.put_head.ensures
