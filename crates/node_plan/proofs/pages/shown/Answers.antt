use mathlib.Core.Path.{◌≡◌, sym, ap, ◌∙◌}
use mathlib.Core.Bool.{true, false}
use Prim.Native.Nat.{ℕ, ◌-◌}
use native.Mathlib.Omega.{arith}
use borrow.Author.Tests.{eq-eqb, ne_eqb}
use lib.Dec.{eqb}
use lib.ListN.{length, take, drop}
use Rattle.node_plan.specs.Pages.{place, shown_text}
use Rattle.node_plan.proofs.PageLaws.{nothing-there}
use Rattle.node_plan.proofs.pages.shown.Goals as goal

pub returns-then-mark-eq0 : goal.returns-then-mark-eq0
unfolding shown_text
returns-then-mark-eq0 c = let q : eqb c.args.mark 0 ≡ true = eq-eqb _ _ c.if-mark-eq0.true in rw q c.part.ensures

pub returns-then-edits-rank : goal.returns-then-edits-rank
unfolding shown_text
returns-then-edits-rank c =
    let a = c.args in
    let q : eqb a.mark 0 ≡ false = ne_eqb _ _ c.if-mark-eq0.false in
    rw q
    (c.part-then-edits-rank.ensures ∙ nothing-there (a.mark - 1) (length a.edits.now) a.edits.now (omega arith) ∙ sym (nothing-there (a.mark - 1) (place a.rank) a.edits.now (omega (arith, c.if-edits-rank.true))))

pub place_of-requires : goal.place_of-requires
place_of-requires c = omega (arith, c.if-edits-rank.false)

pub returns : goal.returns
unfolding shown_text
returns c =
    let a = c.args in
    let q : eqb a.mark 0 ≡ false = ne_eqb _ _ c.if-mark-eq0.false in
    rw q (c.part-2.ensures ∙ ap (λ (k : ℕ). take (a.mark - 1) (drop k a.edits.now)) c.place_of.ensures)
