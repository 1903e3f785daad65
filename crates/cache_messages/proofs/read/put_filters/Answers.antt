use mathlib.Core.Path.{◌≡◌}
use native.Mathlib.Omega.{arith}
use lib.ListN.{length, length-drop}
use Rattle.cache_order.proofs.OrderLaws.{order-places}
use Rattle.cache_entries.specs.Entries.{cluster_order}
use Rattle.cache_messages.proofs.FilterLaws.{cache-unprimed, cache-primed}
use borrow.Author.Rules.{rules}
use Rattle.cache_messages.proofs.read.put_filters.Goals as goal

pub returns-then-not-primed : goal.returns-then-not-primed
returns-then-not-primed c = (λ kinds words lengths. cache-unprimed _ c.if-not-primed.true, omega arith)

pub join_all-requires : goal.join_all-requires
join_all-requires c = let b = c.requires.0 in (b.few-entries, λ i l. omega (arith, b.keys_below i l, b.few-clusters))

pub put_rising-requires : goal.put_rising-requires
put_rising-requires c = let b = c.requires.0 in let order = c.args.order.now in let size : length order ≡ 288 = search rules in rw c.cluster_order.ensures (b.few-clusters, (omega (arith, b.few-clusters, length-drop 256 order, size), (order-places _ (cluster_order order) _ b.cluster-order, c.requires.1)))

pub returns : goal.returns
returns c = let e = c.put_rising.ensures in (λ kinds words lengths. cache-primed c.requires.0 c.args.primed c.if-not-primed.false _ c.join_all.ensures c.cluster_order.ensures e.0 kinds words lengths, e.1)
