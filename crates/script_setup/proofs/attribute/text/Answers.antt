use borrow.Author.Rules.{rules}
use Rattle.script_setup.proofs.attribute.text.Goals as goal

pub returns : goal.returns
returns c = let r = c.rest-b in
    record { value = rw r.ensures.value; bytes_after = r.ensures.out_after; code_bound = search rules }
