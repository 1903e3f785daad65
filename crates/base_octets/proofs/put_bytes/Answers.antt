use mathlib.Core.List.{[]}
use mathlib.Core.Path.{◌≡◌, refl, sym, ◌∙◌}
use native.Mathlib.Nat.{add-zero}
use native.Mathlib.Omega.{arith}
use lib.ListN.{drop, length-set, drop_of_length-le}
use Rattle.base_octets.specs.Store.{store}
use Rattle.base_octets.proofs.StoreLaws.{slice-turn}
use Rattle.base_octets.proofs.put_bytes.Goals as goal

pub loop-i-init : goal.loop-i-init
loop-i-init c = (refl, simp add-zero)

pub loop-i-preserved : goal.loop-i-preserved
loop-i-preserved c =
    let a = c.args in
    let l = c.loop-i in
    (simp length-set l.invariant.0, l.invariant.1 ∙ slice-turn l.b a.src.now a.at l.i (omega arith))

pub shape_of-b : goal.shape_of-b
shape_of-b c = c.loop-i.invariant.0

pub returns : goal.returns
unfolding store
returns c =
    let a = c.args in
    let l = c.loop-i in
    let e : drop l.i a.src.now ≡ [] = drop_of_length-le a.src.now {i = l.i} (omega arith) in
    record { content = sym (l.invariant.1 ∙ rw e refl); place = refl }
