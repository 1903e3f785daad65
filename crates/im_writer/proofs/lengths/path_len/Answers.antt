use native.Mathlib.Omega.{arith}
use Rattle.im_writer.proofs.LengthLaws.{width16, width32, length-path}
use Rattle.im_writer.proofs.lengths.path_len.Goals as goal

pub returns : goal.returns
returns c =
    let a = c.args in
    omega (arith, length-path a.endpoint a.cluster a.attribute 0, width16 a.endpoint c.ranges.endpoint.fits, width32 a.cluster c.ranges.cluster.fits, width32 a.attribute c.ranges.attribute.fits)
