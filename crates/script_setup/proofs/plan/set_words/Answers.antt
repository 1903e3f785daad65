use mathlib.Core.Path.{◌≡◌, sym, ap, ◌∙◌}
use Prim.Native.Nat.{ℕ}
use native.Mathlib.Omega.{arith}
use lib.ListN.{length, take}
use Rattle.node_schema.specs.Layout.{word_count}
use Rattle.script_setup.proofs.plan.set_words.Goals as goal

pub returns : goal.returns
returns c =
    let a = c.args in
    let size : length a.words.now ≡ word_count = omega arith in
    c.copy_from_slice.ensures.after ∙ ap (λ (n : ℕ). take n a.setup.now) (sym size)
