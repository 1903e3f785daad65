use mathlib.Core.Path.{◌≡◌, sym}
use Prim.Native.Nat.{ℕ, ◌+◌, ◌-◌}
use native.Mathlib.Omega.{arith}
use Rattle.node_plan.proofs.PageLaws.{nothing-there, to_the_end}
use Rattle.node_plan.proofs.pages.part.Goals as goal

-- src/pages.rt:24:9
pub returns-then-page-start : goal.returns-then-page-start
returns-then-page-start c = let a = c.args in sym (nothing-there a.len a.start a.page.now c.if-page-start.true)

-- src/pages.rt:27:9
pub returns-then-page-start-2 : goal.returns-then-page-start-2
returns-then-page-start-2 c = let a = c.args in sym (to_the_end a.len a.start a.page.now (omega (arith, c.if-page-start-2.true)))

-- src/pages.rt:20:1
pub returns : goal.returns
returns c = let less : (a b : ℕ) → (a + b) - a ≡ b = λ a b. omega arith in simp less
