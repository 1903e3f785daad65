use mathlib.Core.Path.{refl}
use native.Mathlib.Omega.{arith}
use native.Mathlib.Numerals.{add-one}
use lib.ListN.{length-set}
use Rattle.base_octets.specs.Store.{store}
use Rattle.base_octets.proofs.put2.Goals as goal

pub bounds-b-at-2 : goal.bounds-b-at-2
bounds-b-at-2 c = simp length-set (omega arith)

pub returns : goal.returns
unfolding store
returns c = record { content = simp add-one; place = refl }
