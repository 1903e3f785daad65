use borrow.Author.Rules.{rules}
use Rattle.script_setup.proofs.attribute.boolean.Goals as goal

pub returns : goal.returns
returns c = record { value = rw (c.is_done.ensures, c.read_flag-first.ensures.value); code_bound = search rules }
