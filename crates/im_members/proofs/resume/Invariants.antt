use mathlib.Core.Path.{◌≡◌}
use Prim.Native.Nat.{◌-◌}
use lib.ListN.{length}
use Rattle.im_members.proofs.PassCases.{From}
use Rattle.im_members.proofs.resume.Given as goal

abbrev pub invariant-loop-e : goal.invariant-loop-e
invariant-loop-e l = From l.left l.s l.kind l.listed l.stops l.initial.at l.initial.codes l.initial.p ≡ From l.left l.s l.kind l.listed l.stops l.at l.codes l.p

abbrev pub decreases-loop-e : goal.decreases-loop-e
decreases-loop-e l = length l.s - l.p
