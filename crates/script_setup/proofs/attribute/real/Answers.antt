use borrow.Author.Rules.{rules}
use Rattle.script_setup.proofs.attribute.real.Goals as goal

pub returns : goal.returns
returns c = record { value = rw (c.is_done.ensures, c.read_float-first.ensures.value, c.read_float-high.ensures.value, c.read_float-low.ensures.value); code_bound = search rules }
