use lib.ListN.{take}
use Rattle.base_octets.specs.Store.{Stored}
use Rattle.script_answer.specs.Text.{hex_text}
use Rattle.script_answer.proofs.text.put_bytes.Given as goal

abbrev pub invariant-loop-x : goal.invariant-loop-x
invariant-loop-x l = Stored l.initial.text l.at (hex_text (take l.x-index l.bytes)) l.text l.next
