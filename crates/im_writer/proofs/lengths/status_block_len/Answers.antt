use native.Mathlib.Omega.{arith}
use Rattle.im_writer.proofs.LengthLaws.{width8, length-status-block}
use Rattle.im_writer.proofs.lengths.status_block_len.Goals as goal

pub returns : goal.returns
returns c =
    let a = c.args in
    omega (arith, length-status-block a.endpoint a.cluster a.attribute a.code, width8 a.code c.ranges.code.fits)
