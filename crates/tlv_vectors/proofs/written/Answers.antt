use Rattle.tlv_vectors.proofs.written.Goals as goal

pub slice_bounds-b-end : goal.slice_bounds-b-end
slice_bounds-b-end g c = rw c.in-Some.is at c.elements.ensures
