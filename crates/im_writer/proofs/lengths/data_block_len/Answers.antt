use native.Mathlib.Omega.{arith}
use Rattle.tlv_reader.specs.Value.{datum_in}
use Rattle.im_writer.proofs.LengthLaws.{width32, same-path, length-data-block}
use Rattle.im_writer.proofs.lengths.data_block_len.Goals as goal

pub returns : goal.returns
returns c =
    let a = c.args in
    omega (arith, c.value_len.ensures, same-path a.endpoint a.cluster a.attribute 1, length-data-block a.endpoint a.cluster a.attribute a.version (datum_in a.page.now a.v), width32 a.version c.ranges.version.fits)
