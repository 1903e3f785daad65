use mathlib.Core.Path.{sym, ◌∙◌}
use native.Mathlib.Omega.{arith}
use Rattle.script_setup.specs.Schema.{keyed, key_set, rank_past}
use Rattle.script_setup.proofs.plan.set_key.Goals as goal

pub returns-then-is_text : goal.returns-then-is_text
unfolding keyed key_set rank_past
returns-then-is_text c =
    let r = c.row_of-row.ensures.value in
    let t = sym c.is_text.ensures ∙ c.if-is_text.true in
    record { value = rw (← r, t); words_after = rw (← r, t) c.set_factory.ensures; upper_bound = omega arith }

pub returns : goal.returns
unfolding keyed key_set rank_past
returns c =
    let r = c.row_of-row.ensures.value in
    let t = sym c.is_text.ensures ∙ c.if-is_text.false in
    record { value = rw (← r, t); words_after = rw (← r, t); upper_bound = omega arith }
