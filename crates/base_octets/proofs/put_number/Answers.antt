use native.Mathlib.Omega.{arith}
use Rattle.base_octets.specs.Number.{bytes_of}
use Rattle.base_octets.proofs.StoreLaws as stored
use Rattle.base_octets.proofs.put_number.Goals as goal

pub returns-then-w-eq1 : goal.returns-then-w-eq1
unfolding bytes_of
returns-then-w-eq1 c = rw c.if-w-eq1.true c.put1.ensures

pub returns-then-w-eq2 : goal.returns-then-w-eq2
returns-then-w-eq2 c = rw c.if-w-eq2.true c.put_pair.ensures

pub put_pair-requires-then-w-eq4 : goal.put_pair-requires-then-w-eq4
unfolding bytes_of
put_pair-requires-then-w-eq4 c = let p = c.put_pair-p.ensures in omega (arith, p.place, stored.same_length p)

pub returns-then-w-eq4 : goal.returns-then-w-eq4
unfolding bytes_of
returns-then-w-eq4 c =
    rw c.if-w-eq4.true (stored.then c.put_pair-p.ensures c.put_pair-then-w-eq4.ensures)

pub returns : goal.returns
returns c = c.put_long.ensures
