use Prim.Native.Nat.{◌-◌}
use lib.ListN.{length}
use Rattle.im_requests.proofs.LoopLaws.{Loop}
use Rattle.im_requests.proofs.list.list_from.Given as goal

abbrev pub invariant-loop-kept : goal.invariant-loop-kept
invariant-loop-kept g l = let m = g.M.Member in Loop (λ x. m.words (m.held x)) m.limit l.initial.kept l.left l.s (m.reads l.left l.s) (m.list l.left l.s l.initial.at) l.count l.kept l.at

abbrev pub decreases-loop-kept : goal.decreases-loop-kept
decreases-loop-kept g l = length l.s - l.at
