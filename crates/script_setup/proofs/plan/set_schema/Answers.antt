use mathlib.Core.Path.{◌≡◌, ap, ◌∙◌}
use mathlib.Core.List.{List}
use Prim.Native.Nat.{ℕ}
use native.Mathlib.Omega.{arith}
use lib.ListN.{length, take}
use Rattle.node_schema.specs.Layout.{word_count}
use Rattle.script_setup.specs.Schema.{keys_set}
use Rattle.script_setup.proofs.plan.set_schema.Goals as goal

pub returns : goal.returns
returns c =
    let a = c.args in
    let size : length a.words.now ≡ word_count = omega arith in
    c.set_keys.ensures ∙ ap (λ (w : List ℕ). keys_set a.setup.now w) (c.set_words.ensures ∙ ap (λ (n : ℕ). take n a.setup.now) size)
