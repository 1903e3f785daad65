use mathlib.Core.Path.{◌≡◌, refl, ap, ◌∙◌}
use mathlib.Core.Bool.{Bool, ◌||◌, beq}
use Prim.Native.Nat.{ℕ}
use native.Mathlib.Omega.{arith}
use lib.Dec.{eqb}
use lib.ListN.{get_or}
use Rattle.node_schema.specs.Check.{every}
use Rattle.server_values.specs.Quick.{some, some_text}
use Rattle.server_values.proofs.QuickLaws.{some_turn}
use Rattle.server_values.proofs.pages.some_text.Goals as goal

pub loop-i-init : goal.loop-i-init
unfolding some every
loop-i-init c = refl

pub loop-i-preserved : goal.loop-i-preserved
loop-i-preserved c =
    let a = c.args in
    let l = c.loop-i in
    let p : ℕ → Bool = λ r. beq (eqb (get_or a.texts.now r 0) 0) a.factory in
    ap (λ (b : Bool). b || p l.i) l.invariant ∙ some_turn p l.i

pub returns : goal.returns
returns c =
    let a = c.args in
    let e : c.loop-i.i ≡ a.n = omega arith in
    c.loop-i.invariant ∙ ap (some_text a.texts.now a.factory) e
