use Rattle.script_lines.proofs.value.text.Goals as goal

pub returns : goal.returns
returns c = record { value = rw c.rest-b.ensures.value; out_after = c.rest-b.ensures.out_after }
