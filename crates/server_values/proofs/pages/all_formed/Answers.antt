use mathlib.Core.Bool.{Bool, true, beq}
use mathlib.Core.List.{List}
use lib.Dec.{eqb}
use mathlib.Core.Path.{◌≡◌, refl, sym, ap₂, ◌∙◌}
use Prim.Native.Nat.{ℕ}
use borrow.Author.Rules.{rules}
use lib.ListN.{get_or, take, drop}
use Rattle.base_utf8.specs.WellFormed.{well_formed}
use Rattle.node_schema.specs.Check.{every}
use Rattle.node_schema.proofs.CheckLaws.{every_more, every-fails, every-done}
use Rattle.server_values.specs.Quick.{formed_at, start_in, length_in}
use Rattle.server_values.proofs.QuickLaws.{formed-here, formed-other}
use Rattle.server_values.proofs.pages.all_formed.Goals as goal
use Rattle.server_values.proofs.pages.all_formed.Goals.{then-mark-factory+else-not-is_formed, else-mark-factory}

-- what is asked of a text that is shown from this page
asked : (w page texts : List ℕ) (factory : Bool) (i : ℕ) {s n : ℕ} → s ≡ start_in w factory i → n ≡ length_in w (get_or texts i 0) factory i → beq (eqb (get_or texts i 0) 0) factory ≡ true → well_formed (take n (drop s page)) ≡ formed_at w page texts factory i
asked w page texts factory i s n t = ap₂ (λ (s n : ℕ). well_formed (take n (drop s page))) s n ∙ formed-here w page texts factory i t

pub loop-i-init : goal.loop-i-init
unfolding every
loop-i-init c = refl

pub is_formed-requires : goal.is_formed-requires
is_formed-requires c = c.requires.1

pub returns-then-not-is_formed : goal.returns-then-not-is_formed
returns-then-not-is_formed c =
    let a = c.args in
    every-fails (formed_at a.w.now a.page.now a.texts.now a.factory) _ c.loop-i.i (search rules) (sym (c.is_formed.ensures ∙ asked a.w.now a.page.now a.texts.now a.factory c.loop-i.i c.start_in-start.ensures c.length_in.ensures c.if-mark-factory.true) ∙ c.if-not-is_formed.true)

pub loop-i-preserved : goal.loop-i-preserved
loop-i-preserved c =
    let a = c.args in
    let l = c.loop-i in
    let p = formed_at a.w.now a.page.now a.texts.now a.factory in
    elim c.if-mark-factory.branch [
      | then-mark-factory+else-not-is_formed b ↦ every_more p _ l.invariant
          (sym (b.is_formed.ensures ∙ asked a.w.now a.page.now a.texts.now a.factory l.i b.start_in-start.ensures b.length_in.ensures b.if-mark-factory.true) ∙ b.if-not-is_formed.false)
      | else-mark-factory b ↦ every_more p _ l.invariant (formed-other a.w.now a.page.now a.texts.now a.factory l.i b.if-mark-factory.false)
    ]

pub returns : goal.returns
returns c =
    let a = c.args in
    every-done (formed_at a.w.now a.page.now a.texts.now a.factory) _ _ (search rules) (search rules) c.loop-i.invariant
