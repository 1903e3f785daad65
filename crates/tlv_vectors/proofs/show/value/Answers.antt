use native.Mathlib.Omega.{arith}
use Rattle.tlv_vectors.proofs.show.value.Goals as goal

pub overflow_add-end : goal.overflow_add-end
overflow_add-end g c = omega (arith, rw c.in-Text.is at c.requires)

pub slice_bounds-text-end : goal.slice_bounds-text-end
slice_bounds-text-end g c = omega (arith, rw c.in-Text.is at c.requires)
