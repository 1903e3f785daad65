use mathlib.Core.Path.{sym, ◌∙◌}
use mathlib.Core.Bool.{Bool, false}
use borrow.Author.Rules.{rules}
use Rattle.cache_entries.proofs.ValidLaws.{held-right, right-held}
use Rattle.cache_report.proofs.JudgementLaws.{first_word}
use Rattle.cache_report.proofs.TakeLaws.{taking-begins, next, taking-next, taking-done}
use Rattle.cache_report.proofs.part.take_part.Goals as goal

pub mark_places-requires : goal.mark_places-requires
mark_places-requires c = (held-right _ _ (c.requires.1.0 false)).few-entries

pub loop-j-init : goal.loop-j-init
loop-j-init c = let a = c.args in let p = c.requires.1 in (c.mark_places.ensures, λ primed. taking-begins a.s.now a.blocks.now a.positions.now a.count _ a.page.now (record { right = held-right _ _ (p.0 primed); whole = c.columns_whole.ensures _ _ primed }) p.1.0 p.1.1.0 p.1.1.1)

pub set_block-so-requires : goal.set_block-so-requires
set_block-so-requires c = let a = c.args in let l = c.loop-j in let t = l.invariant.1 in let here : (primed : Bool) → _ = λ primed. next a.s.now a.blocks.now a.positions.now a.count _ _ _ _ l.j (t primed) c.loop-j-test.true _ _ (first_word a.blocks.now l.j) c.value_in-v.ensures in (λ primed. right-held _ _ (t primed).good.right, (λ primed. (t primed).good.whole, (l.invariant.0, ((here false).first, ((here false).usable, ((here false).short, λ primed. (here primed).position))))))

pub loop-j-preserved : goal.loop-j-preserved
loop-j-preserved c = let a = c.args in let l = c.loop-j in let e = c.set_block-so.ensures in (e.1.1.0, λ primed. taking-next a.s.now a.blocks.now a.positions.now a.count _ _ _ _ l.j (l.invariant.1 primed) c.loop-j-test.true e.1.1.1 _ _ (first_word a.blocks.now l.j) c.value_in-v.ensures _ _ (e.0 primed) e.1.0)

pub shape_of-page : goal.shape_of-page
shape_of-page c = search (rules, (c.loop-j.invariant.1 false).good.right.size ∙ sym (held-right _ _ (c.requires.1.0 false)).size)

pub returns : goal.returns
returns c = let a = c.args in let l = c.loop-j in λ primed. taking-done a.s.now a.blocks.now a.positions.now a.count _ _ _ _ l.j (l.invariant.1 primed) c.loop-j-test.false
