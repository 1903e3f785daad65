use Rattle.tlv_vectors.proofs.show.element.Goals as goal

pub value-requires-then-kind-lt-STRUCTURE : goal.value-requires-then-kind-lt-STRUCTURE
value-requires-then-kind-lt-STRUCTURE g c = rw c.value.ensures c.requires
