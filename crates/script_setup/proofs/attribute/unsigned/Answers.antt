use borrow.Author.Rules.{rules}
use Rattle.script_setup.proofs.attribute.unsigned.Goals as goal

pub returns : goal.returns
returns c = record { value = rw (c.is_done.ensures, c.read_number-first.ensures.value, c.read_number-high.ensures.value, c.read_number-low.ensures.value); code_bound = search rules }
