use Rattle.std.proofs.Common.{◌≡◌, ◌≤◌, ◌+◌, length}
use Rattle.std.specs.Slice.Iter.{chunks_rest, chunks_size}
use Rattle.tlv_vectors.proofs.hex.octets.Given as goal

abbrev pub invariant-loop-digits : goal.invariant-loop-digits
invariant-loop-digits l = (chunks_size l.digits-iterator ≡ 3) × (l.n + length (chunks_rest l.digits-iterator) ≤ length l.line) × (length l.out ≡ length l.initial.out)
