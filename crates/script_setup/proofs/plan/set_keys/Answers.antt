use mathlib.Core.Path.{◌≡◌, ap, ◌∙◌}
use Prim.Native.Nat.{ℕ, suc, ◌+◌, ◌-◌}
use native.Mathlib.Omega.{arith}
use Rattle.node_schema.specs.Rows.{count_of_attributes}
use Rattle.script_setup.specs.Schema.{keys_from, keys_set}
use Rattle.script_setup.proofs.plan.set_keys.Goals as goal

pub loop-i-init : goal.loop-i-init
loop-i-init c =
    let n = c.min-n.result in
    let z : n - 0 ≡ n = omega arith in
    (omega arith, rw z)

pub loop-i-preserved : goal.loop-i-preserved
unfolding keys_from
loop-i-preserved c =
    let n = c.min-n.result in
    let i = c.loop-i.i in
    let more : n - i ≡ suc (n - (i + 1)) = omega arith in
    let key = c.set_key-rank.ensures in
    (omega arith, rw (key.value, key.words_after) (rw more at c.loop-i.invariant.1))

pub returns : goal.returns
unfolding keys_from keys_set
returns c =
    let a = c.args in
    let n = c.min-n.result in
    let none : n - c.loop-i.i ≡ 0 = omega arith in
    let all : n ≡ count_of_attributes a.words.now = omega (arith, c.min-n.ensures, c.attribute_count.ensures) in
    (rw none at c.loop-i.invariant.1) ∙ ap (λ (k : ℕ). keys_from k a.setup.now 0 0 a.words.now) all
