use mathlib.Core.List.{List}
use Prim.Native.Nat.{ℕ}
use Rattle.cache_order.specs.Order.{order_right}
use mathlib.Core.Path.{refl, ap, ◌∙◌}
use mathlib.Core.Bool.{Bool, false}
use native.Mathlib.Omega.{arith}
use borrow.Author.Tests.{eqb-true}
use Rattle.cache_entries.specs.declared.Cached.{Cached}
use Rattle.cache_entries.specs.Entries.{held_of}
use Rattle.cache_entries.proofs.ValidLaws.{held-right}
use Rattle.cache_report.proofs.ItemLaws.{Ready, ready, place-below, word-place, word_below, stored_there, item-set, marks-set}
use Rattle.cache_report.proofs.set.set_block.Goals as goal
use Rattle.cache_report.proofs.set.set_block.Goals.{Start}

-- what is held at the start, and what the block finds there
abbrev held : Start → Bool → Cached
held c primed =
    let a = c.args in
    held_of a.clusters.now a.keys.now a.versions.now a.kinds.now a.words.now a.order.now a.lengths.now a.counts.clusters a.counts.entries primed

ready-here : (c : Start) → Ready (held c false) c.args.p c.args.i c.args.first
ready-here c =
    let a = c.args in
    ready a.page.now (held c false) (held-right a.page.now (held c false) (c.requires.0 false)) (c.requires.1.0 false) a.first a.second a.v a.p a.i (c.requires.1.1.1.1.1.1 false)

pub move_text-place-requires : goal.move_text-place-requires
move_text-place-requires c = let r = ready-here (goal.at.move_text-place-requires c).Start in let p = c.requires.1 in let w = p.0 false in (r.few-entries, (r.entry_next, (r.entry-low, (w.kinds, (w.words, (p.1.0, r.own))))))

pub store_text-requires : goal.store_text-requires
store_text-requires c = let a = c.args in let p = c.requires.1.1.1.1 in (p.0, (p.1.0, (place-below (held (goal.at.store_text-requires c).Start false) a.i a.v _ _ c.kind_of-kind.ensures c.move_text-place.ensures.0 (ready-here (goal.at.store_text-requires c).Start).own, (held-right a.page.now (held (goal.at.store_text-requires c).Start false) (c.requires.0 false)).size)))

pub set_cluster-k-requires : goal.set_cluster-k-requires
set_cluster-k-requires c = let r = ready-here (goal.at.set_cluster-k-requires c).Start in (r.few-clusters, (r.cluster-next, (r.cluster-low, r.cluster-order)))

pub overflow_mul-p : goal.overflow_mul-p
overflow_mul-p c = omega (arith, (ready-here (goal.at.overflow_mul-p c).Start).cluster-low)

pub overflow_add-p : goal.overflow_add-p
overflow_add-p c = omega (arith, (ready-here (goal.at.overflow_add-p c).Start).cluster-low)

pub length_of-requires : goal.length_of-requires
length_of-requires c = c.requires.1.1.1.1.1.0

pub set_entry-n-requires : goal.set_entry-n-requires
set_entry-n-requires c = let a = c.args in let r = ready-here (goal.at.set_entry-n-requires c).Start in (r.few-entries, (r.entry_next, (r.entry-low, (ap (λ (o : List ℕ). order_right a.keys.now o a.counts.entries) (ap Cached.order (c.set_cluster-k.ensures a.keys.now a.versions.now a.kinds.now a.words.now a.lengths.now a.counts.entries false)) ∙ r.entry-order, word_below (held (goal.at.set_entry-n-requires c).Start false) a.i a.v _ _ c.kind_of-kind.ensures c.move_text-place.ensures.0 _ c.word_as.ensures r.own))))

pub returns : goal.returns
returns c = let a = c.args in let k = c.kind_of-kind in let m = c.move_text-place in let w = c.word_as in let one = c.set_cluster-k in let two = c.set_entry-n in (λ primed. item-set (held (goal.at.returns c).Start primed) a.i a.v _ _ k.ensures m.ensures.0 _ w.ensures a.p a.first a.second _ c.length_of.ensures _ _ (one.ensures a.keys.now a.versions.now a.kinds.now a.words.now a.lengths.now a.counts.entries primed) (two.ensures one.new.clusters one.result primed), (c.store_text.ensures ∙ stored_there (held (goal.at.returns c).Start false) a.i a.v _ _ k.ensures m.ensures.0 a.s.now a.page.now, (marks-set _ _ a.i _ _ _ _ _ _ (two.ensures one.new.clusters one.result false) (m.ensures.1 _ _ refl (λ t. word-place (held (goal.at.returns c).Start false) a.i a.v _ _ k.ensures m.ensures.0 _ w.ensures (eqb-true _ _ t))), c.ranges.second.fits)))
