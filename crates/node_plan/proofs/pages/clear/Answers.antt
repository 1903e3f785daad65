use mathlib.Core.Path.{ap, ◌∙◌}
use Prim.Native.Nat.{ℕ, ◌-◌}
use native.Mathlib.Omega.{arith}
use lib.ListN.{drop, replicate, length-take, length-drop, length-replicate}
use Rattle.base_octets.proofs.MidLaws.{store-mid}
use Rattle.node_plan.proofs.pages.clear.Goals as goal

pub returns : goal.returns
returns c =
    let a = c.args in
    let z = c.fill.ensures.after (λ y h. h) in
    let k = a.to - a.from in
    store-mid a.b.now a.from k (replicate k 0) c.fill.new.self (omega arith) (length-replicate k 0)
    (z ∙ ap (λ (n : ℕ). replicate n 0) (omega (arith, length-take k (drop a.from a.b.now), length-drop a.from a.b.now)))
