use mathlib.Core.Path.{◌≡◌, refl, sym, ap, ◌∙◌}
use mathlib.Core.Bool.{Bool}
use Prim.Native.Nat.{ℕ, ◌+◌}
use native.Mathlib.Nat.{add-zero}
use native.Mathlib.Omega.{arith}
use borrow.Author.Tests.{lt-ltb, le-ltb}
use lib.Dec.{ltb}
use lib.ListN.{get_or}
use Rattle.node_schema.specs.Check.{count, one}
use Rattle.node_schema.proofs.CheckLaws.{count-more}
use Rattle.server_values.specs.Quick.{long_texts}
use borrow.Author.Rules.{rules}
use Rattle.server_values.proofs.pages.long_texts.Goals as goal
use Rattle.server_values.proofs.pages.long_texts.Goals.{then-texts-i-gt-LONG, else-texts-i-gt-LONG}

pub loop-i-init : goal.loop-i-init
unfolding count
loop-i-init c = (search rules, refl)

pub loop-i-preserved : goal.loop-i-preserved
loop-i-preserved c =
    let t = c.args.texts.now in
    let l = c.loop-i in
    let p : ℕ → Bool = λ r. ltb 101 (get_or t r 0) in
    elim c.if-texts-i-gt-LONG.branch [
      | then-texts-i-gt-LONG b ↦ (omega arith, b.long-is ∙ ap (λ (k : ℕ). k + 1) l.invariant.1 ∙ sym (count-more p l.i ∙ ap (λ (d : Bool). count p l.i + one d) (lt-ltb 101 _ b.if-texts-i-gt-LONG.true)))
      | else-texts-i-gt-LONG b ↦ (omega arith, b.long-is ∙ l.invariant.1 ∙ sym (count-more p l.i ∙ ap (λ (d : Bool). count p l.i + one d) (le-ltb 101 _ b.if-texts-i-gt-LONG.false) ∙ add-zero _))
    ]

pub returns : goal.returns
returns c =
    let a = c.args in
    let e : c.loop-i.i ≡ a.n = omega arith in
    record { value = c.loop-i.invariant.1 ∙ ap (long_texts a.texts.now) e; small = search rules }
