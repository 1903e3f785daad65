use mathlib.Core.Path.{◌≡◌, sym, ap, ◌∙◌}
use mathlib.Core.Bool.{true, false}
use Prim.Native.Nat.{ℕ, ◌*◌}
use native.Mathlib.Omega.{arith}
use lib.ListN.{replicate}
use Rattle.im_requests.specs.Message.{keep_more, list_read}
use Rattle.im_requests.proofs.LoopLaws.{loop-starts, loop-same, loop-bad, loop-ends, loop-refuses, loop-nearer, loop-room, loop-goes, as-lacks, as-has}
use Rattle.im_requests.proofs.list.list_from.Goals as goal

pub loop-kept-init : goal.loop-kept-init
loop-kept-init g c = let m = g.M.Member in let a = c.args in loop-starts (λ x. m.words (m.held x)) m.limit a.kept.now a.left a.s.now (m.reads a.left a.s.now) (m.list a.left a.s.now a.c.at) a.c.at (m.listed a.left a.s.now a.c.at)

pub returns-in-BadItem : goal.returns-in-BadItem
returns-in-BadItem g c = let m = g.M.Member in let a = c.args in let d = a.left in let s = a.s.now in let o = a.kept.now in let t = m.list d s a.c.at in let l = c.loop-kept in
    let z : c.fill.new.self ≡ replicate (m.limit * m.size) 0 = c.fill.ensures.after (λ y h. h) ∙ ap (λ (n : ℕ). replicate n 0) (loop-same (λ x. m.words (m.held x)) m.limit o d s (m.reads d s) t l.invariant ∙ c.requires) in
    (λ j. record { good = false; kept = record { count = 0; words = z j }; next = record { at = 0 } }) ∙ sym (ap (list_read m.limit m.size (λ x. m.words (m.held x)) o) (loop-bad (λ x. m.words (m.held x)) m.limit o d s (m.reads d s) t l.invariant (sym c.item_at-item.ensures ∙ c.in-BadItem.is)))

pub returns-in-Ended : goal.returns-in-Ended
returns-in-Ended g c = let m = g.M.Member in let a = c.args in let d = a.left in let s = a.s.now in let o = a.kept.now in let t = m.list d s a.c.at in let l = c.loop-kept in
    (λ j. record { good = true; kept = record { count = l.invariant.counted j; words = l.invariant.kept j }; next = c.in-Ended.next }) ∙ sym (ap (list_read m.limit m.size (λ x. m.words (m.held x)) o) (loop-ends (λ x. m.words (m.held x)) m.limit o d s (m.reads d s) t l.invariant (sym c.item_at-item.ensures ∙ c.in-Ended.is)))

pub returns-in_default : goal.returns-in_default
returns-in_default g c = let m = g.M.Member in let a = c.args in let d = a.left in let s = a.s.now in let o = a.kept.now in let t = m.list d s a.c.at in let l = c.loop-kept in
    let z : c.fill-in_default.new.self ≡ replicate (m.limit * m.size) 0 = c.fill-in_default.ensures.after (λ y h. h) ∙ ap (λ (n : ℕ). replicate n 0) (loop-same (λ x. m.words (m.held x)) m.limit o d s (m.reads d s) t l.invariant ∙ c.requires) in
    (λ j. record { good = false; kept = record { count = 0; words = z j }; next = record { at = 0 } }) ∙ sym (ap (list_read m.limit m.size (λ x. m.words (m.held x)) o) (loop-refuses (λ x. m.words (m.held x)) m.limit o d s (m.reads d s) t l.invariant (sym c.item_at-item.ensures ∙ c.in-Member.is) (as-lacks m.held (m.on d s _) (sym c.read.ensures ∙ c.in_default.is))))

pub keep-requires : goal.keep-requires
keep-requires g c = let m = g.M.Member in let a = c.args in let d = a.left in let s = a.s.now in let o = a.kept.now in let t = m.list d s a.c.at in let l = c.loop-kept in
    let e = loop-same (λ x. m.words (m.held x)) m.limit o d s (m.reads d s) t l.invariant ∙ c.requires in omega arith

pub overflow_add-count : goal.overflow_add-count
overflow_add-count g c = let m = g.M.Member in let a = c.args in let d = a.left in let s = a.s.now in let o = a.kept.now in let t = m.list d s a.c.at in let l = c.loop-kept in
    let x = as-has m.held (m.on d s _) (sym c.read.ensures ∙ c.in-Some.is) in
    let r = loop-room (λ x. m.words (m.held x)) m.limit o d s (m.reads d s) t l.invariant (sym c.item_at-item.ensures ∙ c.in-Member.is) x.found in omega arith

pub loop-kept-smaller : goal.loop-kept-smaller
loop-kept-smaller g c = let m = g.M.Member in let a = c.args in let d = a.left in let s = a.s.now in let o = a.kept.now in let t = m.list d s a.c.at in let l = c.loop-kept in
    let x = as-has m.held (m.on d s _) (sym c.read.ensures ∙ c.in-Some.is) in
    (loop-nearer (λ x. m.words (m.held x)) m.limit o d s (m.reads d s) t l.invariant (sym c.item_at-item.ensures ∙ c.in-Member.is) x.found)

pub loop-kept-preserved : goal.loop-kept-preserved
loop-kept-preserved g c = let m = g.M.Member in let a = c.args in let d = a.left in let s = a.s.now in let o = a.kept.now in let t = m.list d s a.c.at in let l = c.loop-kept in
    let x = as-has m.held (m.on d s _) (sym c.read.ensures ∙ c.in-Some.is) in
    (loop-goes (λ x. m.words (m.held x)) m.limit o d s (m.reads d s) t l.invariant (sym c.item_at-item.ensures ∙ c.in-Member.is) x.found m.size m.wide (c.keep.ensures ∙ ap (λ y. keep_more m.limit m.size m.words l.kept l.count y) x.is))
