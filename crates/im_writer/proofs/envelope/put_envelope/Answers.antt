use mathlib.Core.Path.{refl}
use Prim.Native.Nat.{◌+◌, ◌*◌}
use Rattle.im_writer.proofs.EnvelopeLaws.{envelope-stored}
use Rattle.im_writer.proofs.envelope.put_envelope.Goals as goal

pub returns : goal.returns
returns c =
    let a = c.args in
    envelope-stored a.edition a.opcode a.exchange a.turn (((a.edition * 16 + a.opcode) * 1099511627776 + a.exchange) * 65536 + a.turn) refl c.put2-p.ensures c.put2-q.ensures c.put2-r.ensures c.put2.ensures
