use Rattle.std.specs.Prelude.{Option, unwrap_or}
use Rattle.std.specs.List.{position}
use Rattle.std.proofs.Common.{rules, tests}
use Rattle.std.proofs.lemmas.Iterator.{YieldsList-from_slice}
use Rattle.std.proofs.lemmas.Iterator.Search.{position_from_yields_List}
use mathlib.Core.Path.{◌≡◌, ap, ◌∙◌}
use mathlib.Core.Bool.{Bool}
use Prim.Native.Nat.{ℕ}
use native.Mathlib.Omega.{arith}
use lib.Dec.{eqb}
use Rattle.cache_entries.proofs.WalkLaws.{position-first}
use Rattle.cache_entries.proofs.texts.free_place.Goals as goal

pub returns : goal.returns
returns c =
    let marks = c.args.marks.now in
    let free : ℕ → Bool = λ x. eqb x 0 in
    let at : c.position.result ≡ position free marks = position_from_yields_List free _ _ c.position.result c.position.ensures.ran (YieldsList-from_slice _ c.iter.ensures.rest) (λ x b q k. search (rules, tests)) in
    c.unwrap_or.ensures ∙ ap (λ (o : Option ℕ). unwrap_or o 0) at ∙ position-first free marks 256 (omega arith)
