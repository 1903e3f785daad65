use native.Mathlib.Omega.{arith}
use Rattle.base_octets.proofs.StoreLaws.{then, same_length as stays}
use Rattle.script_answer.proofs.TextLaws.{length-decimal, length-hex}
use Rattle.script_answer.proofs.text.answer_line.Goals as goal

pub put_bytes-end-requires : goal.put_bytes-end-requires
put_bytes-end-requires c =
    let a = c.args in
    omega (arith, c.put_decimal-at.ensures.place, length-decimal a.number, stays c.put_decimal-at.ensures)

pub put1-requires : goal.put1-requires
put1-requires c =
    let a = c.args in
    omega (arith, c.put_bytes-end.ensures.place, c.put_decimal-at.ensures.place, length-decimal a.number, length-hex a.bytes.now, stays c.put_decimal-at.ensures, stays c.put_bytes-end.ensures)

pub returns : goal.returns
returns c =
    then c.put_decimal-at.ensures (then c.put_bytes-end.ensures c.put1.ensures)
