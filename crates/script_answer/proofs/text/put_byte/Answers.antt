use Rattle.base_octets.proofs.StoreLaws.{then}
use Rattle.script_answer.proofs.text.put_byte.Goals as goal

pub returns : goal.returns
returns c = rw (← c.digit.ensures, ← c.digit-2.ensures) (then c.put1-next.ensures c.put2.ensures)
