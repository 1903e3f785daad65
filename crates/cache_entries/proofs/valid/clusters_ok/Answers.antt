use Rattle.std.specs.List.{list_all}
use Rattle.std.proofs.Common.{rules, tests}
use Rattle.std.proofs.lemmas.Iterator.{YieldsList-from_slice}
use Rattle.std.proofs.lemmas.Iterator.Search.{all_from_yields_List}
use mathlib.Core.Path.{◌≡◌, ◌∙◌}
use mathlib.Core.Bool.{Bool}
use Prim.Native.Nat.{ℕ}
use native.Mathlib.Omega.{arith}
use lib.Dec.{ltb}
use lib.ListN.{take}
use Rattle.cache_entries.specs.Valid.{clusters_right}
use Rattle.cache_entries.proofs.WalkLaws.{all-every}
use Rattle.cache_entries.proofs.valid.clusters_ok.Goals as goal

pub returns : goal.returns
unfolding clusters_right
returns c =
    let a = c.args in
    let short : ℕ → Bool = λ x. ltb x 281474976710656 in
    let all : c.all.result ≡ list_all short (take a.n a.clusters.now) = all_from_yields_List short _ _ c.all.result c.all.ensures.ran (YieldsList-from_slice _ c.iter.ensures.rest) (λ x b q k. search (rules, tests)) in
    all ∙ all-every short a.clusters.now a.n (omega (arith, c.requires))
