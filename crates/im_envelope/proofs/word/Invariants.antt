use mathlib.Core.Path.{◌≡◌}
use Prim.Native.Nat.{◌^◌, ◌<◌}
use lib.ListN.{take}
use Rattle.im_writer.specs.Envelope.{big_number}
use Rattle.im_envelope.proofs.word.Given as goal

abbrev pub invariant-loop-i : goal.invariant-loop-i
invariant-loop-i l = (l.v ≡ big_number (take l.i l.s)) × (l.v < 256 ^ l.i)
