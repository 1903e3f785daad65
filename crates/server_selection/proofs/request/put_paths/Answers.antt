use mathlib.Core.Path.{◌≡◌, refl, sym, ◌∙◌}
use mathlib.Core.List.{[]}
use Prim.Native.Nat.{◌+◌}
use native.Mathlib.Omega.{arith}
use lib.ListN.{drop, length-set, drop_of_length-le}
use Rattle.base_octets.specs.Store.{store}
use Rattle.base_octets.proofs.StoreLaws.{slice-turn}
use Rattle.server_selection.proofs.request.put_paths.Goals as goal

pub loop-k-init : goal.loop-k-init
loop-k-init c = (refl, refl)

pub loop-k-preserved : goal.loop-k-preserved
loop-k-preserved c = let a = c.args in let l = c.loop-k in let y : 0 + l.k ≡ l.k = omega arith in let z : 0 + (l.k + 1) ≡ l.k + 1 = omega arith in
    (simp length-set l.invariant.0, l.invariant.1 ∙ (rw (y, z) at (slice-turn l.row a.paths.now 0 l.k (omega arith))))

pub shape_of-row : goal.shape_of-row
shape_of-row c = c.loop-k.invariant.0

pub returns : goal.returns
unfolding store
returns c = let a = c.args in let l = c.loop-k in
    let e : drop l.k a.paths.now ≡ [] = drop_of_length-le a.paths.now {i = l.k} (omega arith) in
    sym (l.invariant.1 ∙ rw e refl)
