use mathlib.Core.Path.{sym, ◌∙◌}
use Rattle.script_lines.proofs.ByteLaws.{byte-high, byte-low, byte-both}
use Rattle.script_lines.proofs.hex.first_byte.Goals as goal

pub returns-in_err-high : goal.returns-in_err-high
returns-in_err-high c =
    c.from_residual.ensures ∙ sym (byte-high c.args.s.now c.in-len2-up.len_at_least (sym c.hex_digit.ensures.value ∙ c.in_err-high.was))

pub returns-in_err-low : goal.returns-in_err-low
returns-in_err-low c =
    c.from_residual-in_err-low.ensures
    ∙ sym (byte-low c.args.s.now c.in-len2-up.len_at_least _ (sym c.hex_digit.ensures.value ∙ c.in_ok-high.was) (sym c.hex_digit-2.ensures.value ∙ c.in_err-low.was))

pub returns : goal.returns
returns c =
    sym (byte-both c.args.s.now c.in-len2-up.len_at_least _ _ (sym c.hex_digit.ensures.value ∙ c.in_ok-high.was) (sym c.hex_digit-2.ensures.value ∙ c.in_ok-low.was))
