use mathlib.Core.Path.{refl}
use native.Mathlib.Omega.{arith}
use Rattle.tlv_reader.specs.Octet.{number_width}
use Rattle.tlv_writer.specs.Element.{float_octets}
use Rattle.tlv_writer.proofs.put_float.Goals as goal

pub put_numbered-requires : goal.put_numbered-requires
unfolding float_octets number_width
put_numbered-requires c = (omega arith, (refl, c.requires))

pub returns : goal.returns
unfolding float_octets
returns c = c.put_numbered.ensures
