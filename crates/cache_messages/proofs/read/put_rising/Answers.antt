use native.Mathlib.Omega.{arith}
use Rattle.base_octets.proofs.StoreLaws as Stores
use Rattle.cache_order.proofs.OrderLaws.{places-at}
use Rattle.cache_messages.proofs.FilterLaws.{filters-begin, filters-done, filters-more}
use Rattle.cache_messages.proofs.read.put_rising.Goals as goal

pub loop-j-init : goal.loop-j-init
loop-j-init c = filters-begin _ _ _ _ _ _

pub bounds-order-j : goal.bounds-order-j
bounds-order-j c = omega (arith, c.requires.1.0, c.loop-j-test.true)

pub overflow_cast-k : goal.overflow_cast-k
overflow_cast-k c = omega (arith, places-at c.args.order.now c.args.n c.requires.1.1.0 c.loop-j.j c.loop-j-test.true, c.requires.0)

pub offset_bounds-shares-k : goal.offset_bounds-shares-k
offset_bounds-shares-k c = omega (arith, places-at c.args.order.now c.args.n c.requires.1.1.0 c.loop-j.j c.loop-j-test.true, c.requires.0)

pub bounds-shares-k : goal.bounds-shares-k
bounds-shares-k c = omega (arith, places-at c.args.order.now c.args.n c.requires.1.1.0 c.loop-j.j c.loop-j-test.true, c.requires.0)

pub offset_bounds-clusters-k : goal.offset_bounds-clusters-k
offset_bounds-clusters-k c = omega (arith, places-at c.args.order.now c.args.n c.requires.1.1.0 c.loop-j.j c.loop-j-test.true, c.requires.0)

pub bounds-clusters-k : goal.bounds-clusters-k
bounds-clusters-k c = omega (arith, places-at c.args.order.now c.args.n c.requires.1.1.0 c.loop-j.j c.loop-j-test.true, c.requires.0)

pub put_filter_for-at-requires : goal.put_filter_for-at-requires
put_filter_for-at-requires c = omega (arith, c.loop-j.invariant.near, c.loop-j-test.true, c.requires.0, c.requires.1.1.1, Stores.same_length c.loop-j.invariant.stored)

pub loop-j-preserved : goal.loop-j-preserved
loop-j-preserved c = let e = c.put_filter_for-at.ensures in filters-more _ _ _ _ c.loop-j.invariant c.loop-j-test.true e.0 e.1

pub shape_of-out : goal.shape_of-out
shape_of-out c = Stores.same_length c.loop-j.invariant.stored

pub returns : goal.returns
returns c = (filters-done _ _ _ _ c.loop-j.invariant c.loop-j-test.false, omega (arith, c.loop-j.invariant.near, c.requires.0))
