use Rattle.tlv_reader.specs.Value.{datum_in}
use mathlib.Core.Path.{sym}
use Rattle.server_values.proofs.ChangeLaws.{no_text, no_bytes}
use Rattle.server_values.proofs.change.bytes_of.Goals as goal

pub returns-in_default : goal.returns-in_default
returns-in_default c = sym (no_bytes (datum_in c.args.src.now c.args.v) (sym (no_text c.args.v c.in_default.not-Text c.args.src.now)))

pub returns : goal.returns
returns c = rw c.in-Text.is c.part.ensures
