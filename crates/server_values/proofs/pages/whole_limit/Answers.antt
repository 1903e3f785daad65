use mathlib.Core.Path.{refl, ap}
use Prim.Native.Nat.{ℕ, ◌*◌}
use native.Mathlib.Omega.{arith}
use Rattle.node_schema.specs.Layout.{text_size}
use Rattle.server_values.proofs.pages.whole_limit.Goals as goal

pub returns-then-factory : goal.returns-then-factory
returns-then-factory c = rw c.if-factory.true refl

pub overflow_mul-result : goal.overflow_mul-result
overflow_mul-result c = omega (arith, c.long_texts.ensures.small, c.requires)

pub returns : goal.returns
returns c = rw c.if-factory.false (ap (λ (k : ℕ). 2 * text_size * k) c.long_texts.ensures.value)
