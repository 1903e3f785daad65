use lib.ListN.{length}
use native.Mathlib.Omega.{arith}
use lib.ListN.{length-drop}
use mathlib.Core.Path.{◌≡◌}
use borrow.Author.Rules.{rules}
use Rattle.cache_entries.proofs.find.find_cluster.Goals as goal

pub find-requires : goal.find-requires
find-requires c = let p = c.requires in let size : length c.args.order.now ≡ 288 = search rules in rw c.cluster_order.ensures (search rules, omega (arith, p.0, length-drop 256 c.args.order.now, size), p.1)
