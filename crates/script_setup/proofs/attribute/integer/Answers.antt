use borrow.Author.Rules.{rules}
use Rattle.script_setup.proofs.attribute.integer.Goals as goal

pub returns : goal.returns
returns c = record { value = rw (c.is_done.ensures, c.read_signed-first.ensures.value, c.read_signed-high.ensures.value, c.read_signed-low.ensures.value); code_bound = search rules }
