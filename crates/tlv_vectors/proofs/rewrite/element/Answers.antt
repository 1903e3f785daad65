use borrow.Author.Rules.{rules}
use Rattle.tlv_vectors.proofs.rewrite.element.Goals as goal

pub value-requires-then-kind-lt-STRUCTURE : goal.value-requires-then-kind-lt-STRUCTURE
value-requires-then-kind-lt-STRUCTURE c = (rw c.value.ensures c.requires.0, search rules)
