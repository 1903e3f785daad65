use mathlib.Core.Path.{refl, ap, ◌∙◌}
use lib.ListN.{set, length-set, length-replicate, get_or-replicate}
use Rattle.cache_entries.specs.Coherent.{unseen}
use Rattle.cache_entries.proofs.JoinLaws.{along-starts, along-all, along-done}
use Rattle.cache_entries.proofs.shared.join_all.Goals as goal

pub loop-i-init : goal.loop-i-init
loop-i-init c = record { size = length-replicate 32 unseen; each = λ k l. rw (get_or-replicate 32 k unseen 0 l) (along-starts _ _ _ k) }

pub loop-i-preserved : goal.loop-i-preserved
loop-i-preserved c =
    let l = c.loop-i in
    let low = c.requires.1 l.i c.loop-i-test.true in
    along-all _ _ _ l.i _ l.shares _ c.loop-i-test.true refl low l.invariant (ap (set l.shares _) c.joined.ensures) (length-set l.shares _ _ ∙ l.invariant.size)

pub returns : goal.returns
returns c = let l = c.loop-i in λ k m. along-done _ _ _ k l.i _ c.loop-i-test.false (l.invariant.each k m)
