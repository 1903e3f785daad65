use mathlib.Core.Path.{sym, ap, ◌∙◌}
use Rattle.tlv_reader.specs.declared.Value.TheVariants as value
use Rattle.tlv_reader.specs.Walk.{headed}
use Rattle.tlv_reader.specs.Value.{value_of, value_in}
use Rattle.tlv_reader.proofs.value_in.Goals as goal

pub returns-in_default : goal.returns-in_default
unfolding value_in
returns-in_default c = sym (ap (headed value.Other value_of) (sym c.head.ensures ∙ c.in_default.is))

pub returns : goal.returns
unfolding value_in
returns c = c.value.ensures ∙ sym (ap (headed value.Other value_of) (sym c.head.ensures ∙ c.in-Some.is))
