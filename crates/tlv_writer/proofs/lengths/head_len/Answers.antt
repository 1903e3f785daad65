use mathlib.Core.Path.{refl}
use native.Mathlib.Omega.{arith}
use Rattle.tlv_reader.specs.Octet.{tag_width}
use Rattle.tlv_writer.specs.Element.{head_length, form_of}
use Rattle.tlv_writer.proofs.lengths.head_len.Goals as goal

pub returns-in-Anonymous : goal.returns-in-Anonymous
unfolding head_length form_of tag_width
returns-in-Anonymous c = record { value = rw c.in-Anonymous.is refl; small = omega arith }

pub returns-in-Context : goal.returns-in-Context
unfolding head_length form_of tag_width
returns-in-Context c = record { value = rw c.in-Context.is refl; small = omega arith }
